-- A turn that makes a file whole, as the close of a backup: a crash leaves the file whole, or a database with no stroke of that turn.
use Rattle.std.proofs.Common.{◌≡◌, ◌⊎◌, ⊎_elim, inl, inr, true, ℕ, zero, suc, ◌-◌, ◌<◌, ◌≤◌, List, [], ◌∷◌, ◌++◌, length, take, length-append, refl, sym, ap, subst, ◌∙◌, arith, Contains, Option, Some, None, Ok}
use Rattle.nb_top.proofs.Common.{leb_tells, ok_equal, opened_in_use, take-append-le, true≢false, is_free_file, File, Files, Base, Refusal, ShowsIn, delta_name, owner, World, Account, MadeFile, Event, Step, files_made, steps_append, steps_in, steps_of, StandsIn, begun_turns, RunLeft, StandsAsked, StandsWithin, Target, seen_after}
use Rattle.nb_model.specs.Image.{page_at}
use Rattle.nb_model.specs.Trail.{HasPage, bases_of}
use Rattle.nb_top.specs.Rows.{IsNewPage}
use Rattle.nb_top.proofs.OpenLaws.{none_shown}

-- a free name is that of no database
free_shows : (name : List ℕ) (m d : File) (b : Base) → owner name m d ≡ Ok b → is_free_file m ≡ true → ⊥
free_shows name None d b opens free = none_shown name d b opens
free_shows name (Some bytes) d b opens free = true≢false (sym free ∙ opened_in_use name bytes d b opens)

-- a file of later turns is one of all
later_file : (e : Event) (es : List Event) (file : MadeFile) → Contains (files_made es) file → Contains (files_made (e ∷ es)) file
unfolding files_made
later_file e es file there = by e.made
  where
    by : (made : Option MadeFile) → Contains (elim made as (λ z. List MadeFile) [ Some f ↦ f ∷ files_made es | None ↦ files_made es ]) file
    by (Some f) = (suc there.0, omega (arith, there.1), there.2)
    by None = there

-- and so is that of the first
first_file : (e : Event) (es : List Event) (file : MadeFile) → e.made ≡ Some file → Contains (files_made (e ∷ es)) file
unfolding files_made
first_file e es file is =
    subst (λ (made : Option MadeFile). Contains (elim made as (λ z. List MadeFile) [ Some f ↦ f ∷ files_made es | None ↦ files_made es ]) file) (sym is) (0, omega arith, refl)

module _ (closing : Event) (behind : List Event) (name bytes : List ℕ) (is : closing.made ≡ Some (name, bytes)) where
  -- once a step after those of the turns before it was made, it has begun
  begun_past : (before : List Event) (count : ℕ) → length (steps_of before) < count → Contains (files_made (take (begun_turns (before ++ closing ∷ behind) count) (before ++ closing ∷ behind))) (name, bytes)
  unfolding begun_turns steps_of
  begun_past before zero past = absurd (omega (arith, past))
  begun_past [] (suc n) past = first_file closing (take (begun_turns behind (suc n - length (steps_in closing))) behind) (name, bytes) is
  begun_past (e ∷ es) (suc n) past =
      later_file e (take (begun_turns (es ++ closing ∷ behind) (suc n - length (steps_in e))) (es ++ closing ∷ behind)) (name, bytes)
      (begun_past es (suc n - length (steps_in e)) (omega (arith, past, length-append (steps_in e) (steps_of es))))

  module _ (old : World) (account : Account) (target : Option Target) (before : List Event) where
    -- steps of the turns before it are the same, whatever comes after
    within : (files : Files) (said count : ℕ) → count ≤ length (steps_of before) → StandsAsked old account target (before ++ closing ∷ behind) said count files → StandsAsked old account target before said count files
    within files said count few = by target
      where
        cut : take count (steps_of (before ++ closing ∷ behind)) ≡ take count (steps_of before)
        cut = ap (take count) (steps_append before (closing ∷ behind)) ∙ take-append-le count (steps_of before) (steps_of (closing ∷ behind)) few

        by : (t : Option Target) → StandsAsked old account t (before ++ closing ∷ behind) said count files → StandsAsked old account t before said count files
        by None stands = tt
        by (Some t) (inl stands) = inl (subst (λ (steps : List Step). StandsIn t.name (seen_after account t.name steps) files) cut stands)
        by (Some t) (inr unbegun) = inr unbegun

    pub file_first : (files : Files) (said : List ℕ) (left : RunLeft old account target (before ++ closing ∷ behind) files said) → (files name ≡ Some bytes) ⊎ StandsWithin old account target before (length left.out.part) files
    file_first files said left = elim (leb_tells left.count (length (steps_of before))) [
      | inl few ↦ inr (left.count, few.1, within files (length left.out.part) left.count few.1 left.database)
      | inr past ↦ inl (left.begun name bytes (begun_past before left.count past.1))
    ]

  -- where the database has a page that it has only since that turn, the file is whole
  pub row_with_file : (old : World) (account : Account) (t : Target) (before : List Event) (files : Files) (said : List ℕ) → RunLeft old account (Some t) (before ++ closing ∷ behind) files said
      → (b : Base) (p : ℕ) → ShowsIn t.name b files → p < length b.image → IsNewPage old account t.name before p (page_at b.image p) → files name ≡ Some bytes
  row_with_file old account t before files said left b p shows low new =
      ⊎_elim (λ whole. whole) (λ within. absurd (by within.0 within.1 within.2)) (file_first old account (Some t) before files said left)
    where
      by : (count : ℕ) → count ≤ length (steps_of before) → StandsAsked old account (Some t) before (length left.out.part) count files → ⊥
      by count few (inl stands) =
          let same : stands.base ≡ b = ok_equal {T = Base} {E = Refusal} stands.base b (sym stands.opens ∙ shows) in
          new.unseen count few
          (subst (λ (x : Base). HasPage (bases_of (seen_after account t.name (take count (steps_of before)))) p (page_at x.image p)) same (stands.left.mixed.each p (subst (λ (x : Base). p < length x.image) (sym same) low)))
      by count few (inr unbegun) = ⊎_elim
          (λ main. new.unleft (files t.name) (files (delta_name t.name)) b main unbegun.delta shows low refl)
          (λ created. free_shows t.name (files t.name) (files (delta_name t.name)) b shows created.1)
          unbegun.main
