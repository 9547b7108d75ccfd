-- The start of a backup makes strokes, and beside them its file.
use Rattle.std.proofs.Common.{◌≡◌, ◌⊎◌, inl, inr, ⊎_elim, ℕ, List, [], ◌∷◌, ◌++◌, refl, sym, subst, ◌∙◌, None}
use Rattle.nb_copy.proofs.Common.{File, Files, with_file, World, Leaves, Names, Other, Changes, Only, Reached, Remade, rested, weakened, weaker_has, composed_within, remade_on, left_with, with_file-same, reached_first, reached_front, reached_back, Quiet, Outcome, delta_name, Stroke, Trail, StandsIn, StandsOn, after_stroke, OfFiles, Strikes, after_strokes, Held, IsOpen, name_of, IsEmpty, IsMade, OfStart, StartLeft, StartMakes}

-- what stands is a matter of the two files
reached_same : (db : List ℕ) (t : Trail) (xs : List Stroke) (one two : Files) → one db ≡ two db → one (delta_name db) ≡ two (delta_name db) → Reached after_stroke (StandsIn db) t xs one → Reached after_stroke (StandsIn db) t xs two
reached_same db t [] one two main delta is = subst (λ (f : File). StandsOn db t f (two (delta_name db))) main (subst (StandsOn db t (one db)) delta is)
reached_same db t (x ∷ xs) one two main delta is = ⊎_elim
    (λ here. inl (subst (λ (f : File). StandsOn db t f (two (delta_name db))) main (subst (StandsOn db t (one db)) delta here)))
    (λ later. inr (reached_same db (after_stroke x t) xs one two main delta later)) is

-- calls that change nothing
pub starts_quiet : (old new : World) (held : Held) (t : Trail) (name : List ℕ) (turn : Outcome) (xs : List Stroke) → Quiet old new → IsOpen old held t → StartMakes old new name (name_of held) t turn xs
starts_quiet old new held t name turn xs quiet is =
    rested old new (OfStart name (name_of held) turn) (StartLeft old name (name_of held) t xs) quiet.still quiet.said quiet.moments
    (λ files left. record { database = reached_first after_stroke (StandsIn (name_of held)) t xs files (is.files.left files left); file = inl (left name) })

module _ (name db : List ℕ) (apart : OfFiles db name → ⊥) (t : Trail) (turn : Outcome) where
  -- strokes, which don't touch the file
  pub starts_struck : (old new : World) (xs : List Stroke) → Strikes old new db t xs → StartMakes old new name db t turn xs
  starts_struck old new xs struck =
      weakened old new (OfFiles db) (OfStart name db turn) (Reached after_stroke (StandsIn db) t xs) (StartLeft old name db t xs) struck (λ m own. inl own)
      (λ files others has. record { database = has; file = inl (others name apart) })

  -- and then the file
  pub starts_made : (old mid new : World) (xs : List Stroke) → turn.reply ≡ None → Strikes old mid db t xs → Leaves mid name (mid.files name) → Changes mid new (Only name) (Remade mid name IsEmpty) → StartMakes old new name db t turn xs
  starts_made old mid new xs none struck reads file =
      remade_on old mid new (OfStart name db turn) (StartLeft old name db t xs) (StartLeft old name db t xs) name IsEmpty (mid.files name) (starts_struck old mid xs struck) file (inr (refl, none)) reads
      (λ files has. has)
      (λ before files left has was empty others. record {
        database = reached_same db t xs before files (sym (others db (λ same. apart (inl (sym same))))) (sym (others (delta_name db) (λ same. apart (inr (sym same))))) has.database;
        file = inr empty;
      })

  -- and then more strokes
  pub starts_then : (old mid new : World) (xs ys : List Stroke) → StartMakes old mid name db t turn xs → ((m : List ℕ) → Leaves mid m (mid.files m)) → Strikes mid new db (after_strokes t xs) ys → StartMakes old new name db t turn (xs ++ ys)
  starts_then old mid new xs ys first reads struck =
      composed_within old mid new (OfStart name db turn) (OfFiles db) (OfStart name db turn) (StartLeft old name db t xs) (Reached after_stroke (StandsIn db) (after_strokes t xs) ys) (StartLeft old name db t (xs ++ ys)) first struck
      (λ m one. one) (λ m own. inl own)
      (λ files others has. record { database = reached_front after_stroke (StandsIn db) t xs ys files has.database; file = has.file })
      (λ files others has. record { database = reached_back after_stroke (StandsIn db) t xs ys files has; file = as_before (files name) (others name apart) })
    where
      as_before : (file : File) → Leaves mid name file → Leaves old name file ⊎ IsEmpty file
      as_before file left =
          let all = first.now (with_file mid.files name file) (left_with mid name mid.files file (λ m other. reads m) left) in
          subst (λ (f : File). Leaves old name f ⊎ IsEmpty f) (with_file-same mid.files name file) all.file

  -- more strokes were to come
  pub starts_more : (old new : World) (xs ys : List Stroke) → StartMakes old new name db t turn xs → StartMakes old new name db t turn (xs ++ ys)
  starts_more old new xs ys makes =
      weaker_has old new (OfStart name db turn) (StartLeft old name db t xs) (StartLeft old name db t (xs ++ ys)) makes
      (λ files has. record { database = reached_front after_stroke (StandsIn db) t xs ys files has.database; file = has.file })

-- calls on others leave a file as it was made
pub made_kept : (old new : World) (names : Names) (P : Files → Type 0) (name : List ℕ) → Changes old new names P → Other names name → IsMade old name → IsMade new name
made_kept old new names P name changes other made = record { reads = changes.others_read name other ∙ made.reads; only = λ c now. made.only c (changes.others.now name c other now) }
