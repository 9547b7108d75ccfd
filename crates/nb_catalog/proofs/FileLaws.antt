-- Reading files one by one.
use Rattle.std.proofs.Common.{◌≡◌, ℕ, ◌+◌, ◌<◌, ◌≤◌, List, [], ◌∷◌, ◌++◌, length, drop, refl, sym, ap, subst, ◌∙◌, arith, append_assoc, Result, Ok, Err, sum_by}
use Rattle.nb_catalog.proofs.Common.{slice_index_or, append-nil, at_drop_more, at_drop_all, sum_by-drop_more, Files, Fault, Refused, Device, Memory, Refusal, LevelHead, Says, with_first, read_file, read_files}

-- with all of these in front
abbrev pub with_all : {T : Type 0} → List T → Result (List T) Refusal → Result (List T) Refusal
with_all xs (Ok more) = Ok (xs ++ more)
with_all xs (Err refusal) = Err refusal

pub with_all-first : {T : Type 0} (xs : List T) (x : T) (r : Result (List T) Refusal) → with_all xs (with_first x r) ≡ with_all (xs ++ x ∷ []) r
with_all-first xs x (Ok more) = ap Ok (sym (append_assoc xs (x ∷ []) more))
with_all-first xs x (Err refusal) = refl

module _ (files : Files) where
  pub none_left : read_files files [] ≡ Ok []
  unfolding read_files
  none_left = refl

  pub by_first : (name : List ℕ) (names : List (List ℕ)) (r : Result LevelHead Refusal) → read_file name (files name) ≡ r
      → read_files files (name ∷ names) ≡ elim r [ Err refusal ↦ Err refusal | Ok head ↦ with_first head (read_files files names) ]
  unfolding read_files
  by_first name names r is = ap (λ (x : Result LevelHead Refusal). elim x as (λ y. Result (List LevelHead) Refusal) [ Err refusal ↦ Err refusal | Ok head ↦ with_first head (read_files files names) ]) is

  module _ (names : List (List ℕ)) (heads : List LevelHead) (n : ℕ) (so_far : read_files files names ≡ with_all heads (read_files files (drop n names))) where
    module _ (name d : List ℕ) (at : name ≡ slice_index_or names n d) (there : n < length names) where
      first_left : (r : Result LevelHead Refusal) → read_file name (files name) ≡ r
          → read_files files names ≡ with_all heads (elim r [ Err refusal ↦ Err refusal | Ok head ↦ with_first head (read_files files (drop (n + 1) names)) ])
      first_left r is =
          let rest = drop (n + 1) names in
          so_far ∙ ap (with_all heads) (at_drop_more (read_files files) names n d there ∙ ap (λ (m : List ℕ). read_files files (m ∷ rest)) (sym at) ∙ by_first name rest r is)

      -- one file more
      pub read_more : (head : LevelHead) (new : List LevelHead) → Says (read_file name (files name)) (Ok head) → new ≡ heads ++ head ∷ []
          → read_files files names ≡ with_all new (read_files files (drop (n + 1) names))
      read_more head new is added =
          let rest = read_files files (drop (n + 1) names) in
          first_left (Ok head) is ∙ with_all-first heads head rest ∙ sym (ap (λ (hs : List LevelHead). with_all hs rest) added)

      -- a file that isn't read
      pub read_fault : (fault : Fault) → Says {T = LevelHead} (read_file name (files name)) (Err fault) → Says {T = List LevelHead} (read_files files names) (Err fault)
      read_fault (Refused r) is = first_left (Err r) is
      read_fault Device is = tt
      read_fault Memory is = tt

    -- all of them
    pub read_all : length names ≤ n → read_files files names ≡ Ok heads
    read_all end = so_far ∙ ap (with_all heads) (at_drop_all (read_files files) names n end ∙ none_left) ∙ ap Ok (append-nil heads)

-- a refusal that is meant is answered
pub refused : {T : Type 0} (meant : Result T Refusal) (fault : Fault) (r : Refusal) → fault ≡ Refused r → meant ≡ Err r → Says meant (Err fault)
refused meant fault r is means = subst (λ (f : Fault). Says meant (Err f)) (sym is) means

-- the reads of one file more
pub reads_more : (f : List ℕ → ℕ) (names : List (List ℕ)) (n : ℕ) (name : List ℕ) (start before after all : ℕ) → name ≡ slice_index_or names n name → n < length names → before + sum_by f (drop n names) ≤ start + all → after ≤ before + f name
    → after + sum_by f (drop (n + 1) names) ≤ start + all
reads_more f names n name start before after all at there so_far more =
    let split : sum_by f (drop n names) ≡ f name + sum_by f (drop (n + 1) names) = sum_by-drop_more f names n name there ∙ ap (λ (m : List ℕ). f m + sum_by f (drop (n + 1) names)) (sym at) in
    omega (arith, so_far, more, split)

pub reads_all : (f : List ℕ → ℕ) (names : List (List ℕ)) (n : ℕ) (start before all : ℕ) → before + sum_by f (drop n names) ≤ start + all → before ≤ start + all
reads_all f names n start before all so_far = omega (arith, so_far)

-- of a file that stays
pub most_same : (most now before after : ℕ) → now ≡ most → after ≤ before + now → after ≤ before + most
most_same most now before after same read = omega (arith, same, read)
