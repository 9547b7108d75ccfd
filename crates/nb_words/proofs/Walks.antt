-- The walk of `clap` over all words is the reading of the definition.
use Rattle.std.proofs.Common.{◌≡◌, ◌∙◌, ◌++◌, ◌+◌, ◌<◌, ◌≤◌, ℕ, Bool, true, false, List, [], ◌∷◌, length, drop, fold, Option, Some, None, unwrap_or, refl, ap, sym, subst, inl, inr, IsUtf8, codes, arith, append-nil, append_assoc}
use Rattle.nb_words.proofs.Common.{list_all, AllByRecursion, cases_Bool, both_ways, length-append, usize_max, Row, Text, Kinds, or_else, Shape, Walk, walked, turn_fault, walk_fault, same_name, Read, read_words, with_word, with_flags, is_flags, is_flag, words_in}
use Rattle.clap.specs.declared.error.kind.ErrorKind.TheVariants as kind
use Rattle.nb_words.proofs.Rules.{rules_for, is_in}
use Rattle.nb_words.proofs.UseLaws.{Seen, seen_settled, seen_word, seen_bundle, after_bundle, after_waiting}
use Rattle.nb_words.proofs.Steps.{stand, shape, trailing_step, trailing_passes, plain_step, plain_passes, dashes_step, dashes_pass, bundle_step, bundle_turn, bundle_refuses, long_refuses}
use Rattle.nb_words.proofs.Looks.{looks_plain, looks_flags}
use Rattle.nb_words.proofs.Defined.{read_dashes, read_plain, read_flags, read_other}

-- the words that wait are no more than all that came
pub waiting_fits : (rows : List Row) (waiting : Option (List Text)) (flags : List ℕ) (plain : List Text) (n : ℕ) → Seen rows waiting flags plain → length plain + n ≤ usize_max → length (unwrap_or waiting []) ≤ usize_max
waiting_fits rows waiting flags plain n s le =
    let e : length (words_in rows) + length (unwrap_or waiting []) ≡ length plain = sym (length-append (words_in rows) (unwrap_or waiting [])) ∙ ap length s.words in
    omega (arith, e, le)

module _ (ls : List ℕ) (s : Shape) where
  -- the words are taken, and hold these flags and plain words
  pub record Walked (w : Walk) (ws : List Text) (flags : List ℕ) (plain : List Text) : Type 0 where
    pub fault : walk_fault (shape ls s) [] w ws ≡ []
    pub is_trailing : Bool
    pub late : Bool
    pub rows : List Row
    pub waiting : Option (List Text)
    pub end : fold (walked (rules_for ls) []) w ws ≡ stand is_trailing late rows waiting
    pub seen : Seen rows waiting flags plain

  -- they are refused
  abbrev pub Refuses : Walk → List Text → Type 0
  Refuses w ws = walk_fault (shape ls s) [] w ws ≡ [] → ⊥

  -- what comes of the words, where these flags and plain words came before
  abbrev pub Comes : Walk → List Text → List ℕ → List Text → Option Read → Type 0
  Comes w ws flags plain None = Refuses w ws
  Comes w ws flags plain (Some r) = Walked w ws (flags ++ r.flags) (plain ++ r.plain)

  fault_more : (word : Text) (ws : List Text) (w v : Walk) → turn_fault (shape ls s) [] w word ≡ [] → walked (rules_for ls) [] w word ≡ v → walk_fault (shape ls s) [] w (word ∷ ws) ≡ walk_fault (shape ls s) [] v ws
  unfolding walk_fault
  fault_more word ws w v free step =
      ap (λ (k : Kinds). or_else k (walk_fault (shape ls s) [] (walked (rules_for ls) [] w word) ws)) free
      ∙ ap (λ (u : Walk). walk_fault (shape ls s) [] u ws) step

  more : (word : Text) (ws : List Text) (w v : Walk) (flags : List ℕ) (plain : List Text) → turn_fault (shape ls s) [] w word ≡ [] → walked (rules_for ls) [] w word ≡ v → Walked v ws flags plain → Walked w (word ∷ ws) flags plain
  more word ws w v flags plain free step rest = record {
    fault = fault_more word ws w v free step ∙ rest.fault;
    is_trailing = rest.is_trailing;
    late = rest.late;
    rows = rest.rows;
    waiting = rest.waiting;
    end = ap (λ (u : Walk). fold (walked (rules_for ls) []) u ws) step ∙ rest.end;
    seen = rest.seen;
  }

  refused_later : (word : Text) (ws : List Text) (w v : Walk) → turn_fault (shape ls s) [] w word ≡ [] → walked (rules_for ls) [] w word ≡ v → Refuses v ws → Refuses w (word ∷ ws)
  refused_later word ws w v free step rest h = rest (sym (fault_more word ws w v free step) ∙ h)

  refused_now : (word : Text) (ws : List Text) (w : Walk) → turn_fault (shape ls s) [] w word ≡ kind.UnknownArgument ∷ [] → Refuses w (word ∷ ws)
  unfolding walk_fault
  refused_now word ws w fault h =
      let e : kind.UnknownArgument ∷ [] ≡ [] = sym (ap (λ (k : Kinds). or_else k (walk_fault (shape ls s) [] (walked (rules_for ls) [] w word) ws)) fault) ∙ h in
      absurd (cc)

  no_words : (is_trailing late : Bool) (rows : List Row) (waiting : Option (List Text)) (flags : List ℕ) (plain : List Text) → Seen rows waiting flags plain → Walked (stand is_trailing late rows waiting) [] flags plain
  unfolding walk_fault
  no_words is_trailing late rows waiting flags plain seen = record { fault = refl; is_trailing = is_trailing; late = late; rows = rows; waiting = waiting; end = refl; seen = seen }

  -- after `--`
  trailing_walk : (ws : List Text) (late : Bool) (rows : List Row) (waiting : Option (List Text)) (flags : List ℕ) (plain : List Text) → Seen rows waiting flags plain → Walked (stand true late rows waiting) ws flags (plain ++ ws)
  trailing_walk [] late rows waiting flags plain seen = subst (λ (p : List Text). Walked (stand true late rows waiting) [] flags p) (sym (append-nil plain)) (no_words true late rows waiting flags plain seen)
  trailing_walk (word ∷ ws) late rows waiting flags plain seen =
      subst (λ (p : List Text). Walked (stand true late rows waiting) (word ∷ ws) flags p) (append_assoc plain (word ∷ []) ws)
      (more word ws (stand true late rows waiting) (stand true true rows (Some (unwrap_or waiting [] ++ word ∷ []))) flags ((plain ++ word ∷ []) ++ ws)
      (trailing_passes ls s late rows waiting word) (trailing_step ls s late rows waiting word)
      (trailing_walk ws true rows (Some (unwrap_or waiting [] ++ word ∷ [])) flags (plain ++ word ∷ []) (seen_word word waiting rows flags plain seen)))

  plain_then : (o : Option Read) (word : Text) (ws : List Text) (w v : Walk) (flags : List ℕ) (plain : List Text) → turn_fault (shape ls s) [] w word ≡ [] → walked (rules_for ls) [] w word ≡ v
      → Comes v ws flags (plain ++ word ∷ []) o → Comes w (word ∷ ws) flags plain (with_word word o)
  plain_then None word ws w v flags plain free step rest = refused_later word ws w v free step rest
  plain_then (Some r) word ws w v flags plain free step rest =
      subst (λ (p : List Text). Walked w (word ∷ ws) (flags ++ r.flags) p) (append_assoc plain (word ∷ []) r.plain)
      (more word ws w v (flags ++ r.flags) ((plain ++ word ∷ []) ++ r.plain) free step rest)

  flags_then : (o : Option Read) (letters : List ℕ) (word : Text) (ws : List Text) (w v : Walk) (flags : List ℕ) (plain : List Text) → turn_fault (shape ls s) [] w word ≡ [] → walked (rules_for ls) [] w word ≡ v
      → Comes v ws (flags ++ letters) plain o → Comes w (word ∷ ws) flags plain (with_flags letters o)
  flags_then None letters word ws w v flags plain free step rest = refused_later word ws w v free step rest
  flags_then (Some r) letters word ws w v flags plain free step rest =
      subst (λ (f : List ℕ). Walked w (word ∷ ws) f (plain ++ r.plain)) (append_assoc flags letters r.flags)
      (more word ws w v ((flags ++ letters) ++ r.flags) (plain ++ r.plain) free step rest)

  dashes_then : (word : Text) (ws : List Text) (late : Bool) (rows : List Row) (waiting : Option (List Text)) (flags : List ℕ) (plain : List Text) → same_name word (codes "--") ≡ true → Seen rows waiting flags plain
      → Comes (stand false late rows waiting) (word ∷ ws) flags plain (Some (record { flags = []; plain = ws }))
  dashes_then word ws late rows waiting flags plain e seen =
      subst (λ (f : List ℕ). Walked (stand false late rows waiting) (word ∷ ws) f (plain ++ ws)) (sym (append-nil flags))
      (more word ws (stand false late rows waiting) (stand true late rows waiting) flags (plain ++ ws) (dashes_pass ls s late rows waiting word e) (dashes_step ls s late rows waiting word e)
      (trailing_walk ws late rows waiting flags plain seen))

  -- the flags are those of the definition
  module _ (small : (y : ℕ) → is_in y ls ≡ true → y < 128) (apart : is_in 45 ls ≡ false) (same : (xs : List ℕ) → list_all is_flag xs ≡ list_all (λ y. is_in y ls) xs) where
    letters_then : (o : Option Read) (word : Text) (ws : List Text) (late : Bool) (rows : List Row) (waiting : Option (List Text)) (flags : List ℕ) (plain : List Text)
        → same_name word (codes "--") ≡ false → is_flags word ≡ true → list_all is_flag (drop 1 word) ≡ true → IsUtf8 word → length (unwrap_or waiting []) ≤ usize_max → Seen rows waiting flags plain
        → ((late : Bool) (rows : List Row) (waiting : Option (List Text)) (flags : List ℕ) → Seen rows waiting flags plain → Comes (stand false late rows waiting) ws flags plain o)
        → Comes (stand false late rows waiting) (word ∷ ws) flags plain (with_flags (drop 1 word) o)
    letters_then o word ws late rows waiting flags plain e f g u le seen rest = elim (looks_flags ls word apart e f u) [
      | inl (long, bad) ↦ absurd (both_ways (list_all (λ y. is_in y ls) (drop 1 word)) bad (sym (same (drop 1 word)) ∙ g))
      | inr b ↦
          let letters = b.first ∷ b.others in
          let all : list_all (λ y. is_in y ls) letters ≡ true = sym (ap (list_all (λ y. is_in y ls)) b.is) ∙ sym (same (drop 1 word)) ∙ g in
          let after = after_bundle letters (after_waiting waiting rows) in
          subst (λ (x : List ℕ). Comes (stand false late rows waiting) (word ∷ ws) flags plain (with_flags x o)) (sym b.is)
          (flags_then o letters word ws (stand false late rows waiting) (stand false false after None) flags plain
          (bundle_turn ls s late rows waiting small word b.first b.others b.bundle all le)
          (bundle_step ls s late rows waiting small word b.first b.others b.bundle all)
          (rest false after None (flags ++ letters) (seen_bundle letters (after_waiting waiting rows) flags plain (seen_settled waiting rows flags plain seen))))
    ]

    other_then : (word : Text) (ws : List Text) (late : Bool) (rows : List Row) (waiting : Option (List Text))
        → same_name word (codes "--") ≡ false → is_flags word ≡ true → list_all is_flag (drop 1 word) ≡ false → IsUtf8 word → length (unwrap_or waiting []) ≤ usize_max
        → Refuses (stand false late rows waiting) (word ∷ ws)
    other_then word ws late rows waiting e f g u le = elim (looks_flags ls word apart e f u) [
      | inl (long, bad) ↦ refused_now word ws (stand false late rows waiting) (long_refuses ls s late rows waiting small word long)
      | inr b ↦
          let letters = b.first ∷ b.others in
          let some : list_all (λ y. is_in y ls) letters ≡ false = sym (ap (list_all (λ y. is_in y ls)) b.is) ∙ sym (same (drop 1 word)) ∙ g in
          refused_now word ws (stand false late rows waiting) (bundle_refuses ls s late rows waiting small word letters b.bundle some b.text le)
    ]

    -- whatever the words, and whatever came before
    pub walk_comes : (ws : List Text) (late : Bool) (rows : List Row) (waiting : Option (List Text)) (flags : List ℕ) (plain : List Text)
        → AllByRecursion IsUtf8 ws → Seen rows waiting flags plain → length plain + length ws ≤ usize_max
        → Comes (stand false late rows waiting) ws flags plain (read_words ws)
    unfolding read_words
    walk_comes [] late rows waiting flags plain texts seen le =
        let w = stand false late rows waiting in
        subst (λ (p : List Text). Walked w [] (flags ++ []) p) (sym (append-nil plain))
        (subst (λ (f : List ℕ). Walked w [] f plain) (sym (append-nil flags)) (no_words false late rows waiting flags plain seen))
    walk_comes (word ∷ ws) late rows waiting flags plain texts seen le =
        let w = stand false late rows waiting in
        let fits = waiting_fits rows waiting flags plain (length (word ∷ ws)) seen le in
        elim (cases_Bool (same_name word (codes "--"))) [
          | inl e ↦ subst (Comes w (word ∷ ws) flags plain) (sym (read_dashes word ws e)) (dashes_then word ws late rows waiting flags plain e seen)
          | inr e ↦ elim (cases_Bool (is_flags word)) [
            | inr f ↦
                let p = looks_plain word e f in
                let longer : length (plain ++ word ∷ []) ≡ length plain + 1 = length-append plain (word ∷ []) in
                let now : Option (List Text) = Some (unwrap_or waiting [] ++ word ∷ []) in
                subst (Comes w (word ∷ ws) flags plain) (sym (read_plain word ws e f))
                (plain_then (read_words ws) word ws w (stand false true rows now) flags plain
                (plain_passes ls s late rows waiting word p) (plain_step ls s late rows waiting word p)
                (walk_comes ws true rows now flags (plain ++ word ∷ []) texts.1 (seen_word word waiting rows flags plain seen) (omega (arith, longer, le))))
            | inl f ↦ elim (cases_Bool (list_all is_flag (drop 1 word))) [
              | inl g ↦
                  subst (Comes w (word ∷ ws) flags plain) (sym (read_flags word ws e f g))
                  (letters_then (read_words ws) word ws late rows waiting flags plain e f g texts.0 fits seen
                  (λ late rows waiting flags seen. walk_comes ws late rows waiting flags plain texts.1 seen (omega (arith, le))))
              | inr g ↦
                  subst (Comes w (word ∷ ws) flags plain) (sym (read_other word ws e f g))
                  (other_then word ws late rows waiting e f g texts.0 fits)
            ]
          ]
        ]
