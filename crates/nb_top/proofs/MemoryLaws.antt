-- Hosts in memory that start from files for good.
use Rattle.std.proofs.Common.{◌≡◌, ◌≢◌, ◌⊎◌, inl, inr, ⊎_elim, ℕ, List, [], refl, sym, subst, ◌∙◌, Some}
use Rattle.nb_top.proofs.Common.{File, Files, with_file, Leaves, files_of, Back, world_of, StartsFrom, no_files}
use Rattle.nb_mem.specs.declared.entry.Entry.{Entry}
use Rattle.nb_mem.specs.Histories.{Now}
use Rattle.nb_mem.specs.Outcomes.{IsLeft, placed}
use Rattle.nb_host.proofs.NameLaws.{decide, at_same, at_other, with_file-same, with_file-other}

-- before the first call
pub new_starts : StartsFrom (world_of []) no_files
new_starts = record { reads = λ name. refl; only = λ name file leaves. ⊎_elim (λ back. absurd back) (λ is. is) leaves }

-- after a crash
pub left_starts : (stopped left : List Entry) → IsLeft stopped left → StartsFrom (world_of left) (files_of left)
left_starts stopped left is = record { reads = λ name. refl; only = λ name file leaves. ⊎_elim ((is.durable name).none_back file) ((is.durable name).only file) leaves }

-- where a file is placed
module _ (es : List Entry) (files : Files) (n bytes : List ℕ) (starts : StartsFrom (world_of es) files) where
  abbrev behind : List Entry
  behind = placed n (Some bytes) es

  reads_then : (m : List ℕ) → (m ≡ n) ⊎ (m ≢ n) → files_of behind m ≡ with_file files n (Some bytes) m
  reads_then m (inl same) =
      subst (λ (q : List ℕ). files_of behind q ≡ with_file files n (Some bytes) q) (sym same) (with_file-same (files_of es) n (Some bytes) ∙ sym (with_file-same files n (Some bytes)))
  reads_then m (inr other) = with_file-other (files_of es) n (Some bytes) m other ∙ starts.reads m ∙ sym (with_file-other files n (Some bytes) m other)

  only_here : (c : File) → Leaves (world_of behind) n c → c ≡ with_file files n (Some bytes) n
  only_here c leaves = ⊎_elim
      (λ back. absurd (at_same ⊥ (Back es n c) n back))
      (λ now. at_same (c ≡ Some bytes) (Now es n c) n now ∙ sym (with_file-same files n (Some bytes)))
      leaves

  only_then : (m : List ℕ) (c : File) → (m ≡ n) ⊎ (m ≢ n) → Leaves (world_of behind) m c → c ≡ with_file files n (Some bytes) m
  only_then m c (inl same) = subst (λ (q : List ℕ). Leaves (world_of behind) q c → c ≡ with_file files n (Some bytes) q) (sym same) (only_here c)
  only_then m c (inr other) = λ leaves.
      starts.only m c (⊎_elim (λ back. inl (at_other ⊥ (Back es m c) m n other back)) (λ now. inr (at_other (c ≡ Some bytes) (Now es m c) m n other now)) leaves)
      ∙ sym (with_file-other files n (Some bytes) m other)

  pub placed_starts : StartsFrom (world_of behind) (with_file files n (Some bytes))
  placed_starts = record { reads = λ m. reads_then m (decide m n); only = λ m c leaves. only_then m c (decide m n) leaves }
