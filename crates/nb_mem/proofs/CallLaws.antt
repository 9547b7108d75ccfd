-- What a sync comes to.
use Rattle.std.proofs.Common.{◌≡◌, ⊎_elim, ℕ, true, List, ◌∷◌, sym, subst, MatchBool, Ok}
use Rattle.nb_mem.proofs.Common.{File, Syncs, same_name, Entry, Changed, Synced, files_of, Now, Back, world_of, seen, decide, at_same, at_other, with_file-keep}

-- a file was synced
module _ (es : List Entry) (n : List ℕ) where
  synced_back : (m : List ℕ) (c : File) → Back (Changed n Synced ∷ es) m c → Back es m c
  synced_back m c left = ⊎_elim
      (λ same. absurd (at_same ⊥ (Back es n c) n (subst (λ q. MatchBool (same_name q n) ⊥ (Back es q c)) same left)))
      (λ other. at_other ⊥ (Back es m c) m n other left) (decide m n)

  synced_now : (m : List ℕ) (c : File) → Now (Changed n Synced ∷ es) m c → Now es m c
  synced_now m c left = ⊎_elim
      (λ same. subst (λ q. Now es q c) (sym same) (subst (Now es n) (sym (at_same (c ≡ files_of es n) (Now es n c) n (subst (λ q. Now (Changed n Synced ∷ es) q c) same left))) (seen es n)))
      (λ other. at_other (c ≡ files_of es m) (Now es m c) m n other left) (decide m n)

  pub synced : (new : List Entry) {T E : Type 0} (v : T) → new ≡ Changed n Synced ∷ es → Syncs {E = E} true (Ok v) (world_of es) (world_of new) n
  synced new {E = E} v is = subst (λ l. Syncs {E = E} true (Ok v) (world_of es) (world_of l) n) (sym is) (record {
    still = record { files = with_file-keep (files_of es) n; left = record { back = λ m c any left. synced_back m c left; now = λ m c any left. synced_now m c left } };
    durable = λ tells. record { none_back = λ c left. absurd (at_same ⊥ (Back es n c) n left); only = λ c left. at_same (c ≡ files_of es n) (Now es n c) n left };
  })
