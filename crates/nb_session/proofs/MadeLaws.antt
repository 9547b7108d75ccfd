-- Lists of files that are made.
use Rattle.std.proofs.Common.{◌⊎◌, inl, inr, ℕ, zero, suc, ◌≤◌, List, [], ◌∷◌, ◌++◌, take, refl, sym, ap, subst, arith, Contains}
use Rattle.nb_session.proofs.Common.{Contains-append_left, Contains-append_right, Contains-append_cases, decide, MadeFile, AreAmong, IsNoneOf, NamesOnce, Event, files_made, made_append, one_held}

-- none are among any
pub none_among : (files : List MadeFile) → AreAmong [] files
none_among files file there = absurd (omega (arith, there.1))

-- two lists among a third
pub both_among : (xs ys files : List MadeFile) → AreAmong xs files → AreAmong ys files → AreAmong (xs ++ ys) files
both_among xs ys files first second file there = elim (Contains-append_cases xs ys file there) [ inl one ↦ first file one | inr two ↦ second file two ]

pub among_more : (xs ys zs : List MadeFile) → AreAmong ys zs → AreAmong (xs ++ ys) (xs ++ zs)
among_more xs ys zs among = both_among xs ys (xs ++ zs) (Contains-append_left xs zs) (λ file there. Contains-append_right xs zs file (among file there))

-- fewer files have names no more often
pub once_fewer : (few many : List MadeFile) → AreAmong few many → NamesOnce many → NamesOnce few
once_fewer few many among once name bytes others one other = once name bytes others (among (name, bytes) one) (among (name, others) other)

-- whether a name is that of one of them
pub named_tells : (files : List MadeFile) (name : List ℕ) → ((bytes : List ℕ) × Contains files (name, bytes)) ⊎ IsNoneOf files name
named_tells [] name = inr (λ bytes there. omega (arith, there.1))
named_tells (f ∷ files) name = elim (decide f.0 name) [
  | inl same ↦ inl (f.1, subst (λ (n : List ℕ). Contains (f ∷ files) (n, f.1)) same (Contains-append_left (f ∷ []) files f (0, omega arith, refl)))
  | inr other ↦ elim (named_tells files name) [
    | inl some ↦ inl (some.0, Contains-append_right (f ∷ []) files (name, some.0) some.1)
    | inr none ↦ inr (λ bytes there. elim (Contains-append_cases (f ∷ []) files (name, bytes) there) [
      | inl here ↦ other (ap (λ (file : MadeFile). file.0) (one_held f (name, bytes) here))
      | inr later ↦ none bytes later
    ])
  ]
]

-- what turns make, and those after them
pub made_first : (es fs : List Event) → AreAmong (files_made es) (files_made (es ++ fs))
made_first es fs = subst (AreAmong (files_made es)) (sym (made_append es fs)) (Contains-append_left (files_made es) (files_made fs))

pub made_second : (es fs : List Event) → AreAmong (files_made fs) (files_made (es ++ fs))
made_second es fs = subst (AreAmong (files_made fs)) (sym (made_append es fs)) (Contains-append_right (files_made es) (files_made fs))

pub made_both : (es fs : List Event) (files : List MadeFile) → AreAmong (files_made es) files → AreAmong (files_made fs) files → AreAmong (files_made (es ++ fs)) files
made_both es fs files first second = subst (λ (all : List MadeFile). AreAmong all files) (sym (made_append es fs)) (both_among (files_made es) (files_made fs) files first second)

-- Where turns make some of the files, and leave the others to be made.
pub made_ahead : (es fs : List Event) (now then : List MadeFile) → AreAmong now (files_made fs ++ then) → AreAmong (files_made es ++ now) (files_made (es ++ fs) ++ then)
made_ahead es fs now then goes =
    let all : List MadeFile = files_made (es ++ fs) ++ then in
    both_among (files_made es) now all
    (λ file there. Contains-append_left (files_made (es ++ fs)) then file (made_first es fs file there))
    (λ file there. both_among (files_made fs) then all (λ f one. Contains-append_left (files_made (es ++ fs)) then f (made_second es fs f one)) (Contains-append_right (files_made (es ++ fs)) then) file (goes file there))

-- more turns make no fewer files
pub made_grow : (es : List Event) (m n : ℕ) → m ≤ n → AreAmong (files_made (take m es)) (files_made (take n es))
unfolding files_made
made_grow es zero n low = none_among (files_made (take n es))
made_grow [] (suc m) n low = none_among (files_made (take n []))
made_grow (e ∷ es) (suc m) zero low = absurd (omega arith)
made_grow (e ∷ es) (suc m) (suc n) low =
    subst (λ (files : List MadeFile). AreAmong files (files_made (e ∷ take n es))) (sym (made_append (e ∷ []) (take m es)))
    (subst (AreAmong (files_made (e ∷ []) ++ files_made (take m es))) (sym (made_append (e ∷ []) (take n es)))
    (among_more (files_made (e ∷ [])) (files_made (take m es)) (files_made (take n es)) (made_grow es m n (omega arith))))
