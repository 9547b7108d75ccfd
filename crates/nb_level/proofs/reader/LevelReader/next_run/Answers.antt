use Rattle.std.proofs.Common.{◌≡◌, ◌+◌, ◌-◌, ◌≤◌, List, ℕ, take, drop, length, Option, Some, Ok, IfSome, subst, refl, sym, ap, ◌∙◌, arith, IsTrue}
use Rattle.nb_level.proofs.Common.{number_in, part, number_in-take, size_facts, most_pages, bytes_of, Reading}
use Rattle.nb_level.proofs.NextLaws.{filled, to_end, window_is, page_is, run-broken, run-end, run-gives}
use Rattle.nb_level.proofs.reader.LevelReader.next_run.Goals as goal
use Rattle.nb_level.proofs.reader.LevelReader.next_run.Goals.{After-run_step}

-- What was read.
module _ (g : _) (c : goal.After-run_step g) where
  abbrev reading : Reading
  reading = record { name = c.self.inside.name; version = c.self.inside.version; head = c.self.inside.head; place = c.self.inside.place }

  abbrev bytes : List ℕ
  bytes = bytes_of ((g.H.Host.world c.args.host.now).files c.self.inside.name)

  abbrev rest : List ℕ
  rest = drop c.self.inside.place.at bytes

  abbrev size : ℕ
  size = c.self.inside.head.page_size

  abbrev window : List ℕ
  window = take c.in_ok-got.got c.deref.result.now

  version : c.self.inside.version ≡ 102
  version = ap (λ (v : Reading). v.version) c.self.view_is ∙ c.requires.run.0

  left : c.self.inside.place.left ≡ 0
  left = ap (λ (v : Reading). v.place.left) c.self.view_is ∙ c.requires.run.1

  wide : 5 ≤ size
  wide = omega (arith, (size_facts size c.self.invariant.size).at_least)

  room : length c.deref_mut.result.now ≡ 8 + size
  room = ap length c.deref_mut.ensures.value ∙ c.self.invariant.room_102 version

  seen : c.deref.result.now ≡ c.read_at.new.into
  seen = c.deref.ensures.value ∙ filled c.self.inside.buffer.len c.read_at.new.into c.self.inside.buffer.items (omega (arith, room))

  module _ (told : IsTrue g.H.Host.tells) where
    is : window ≡ take (8 + size) rest
    is = window_is c.in_ok-got.got (8 + size) c.deref.result.now c.read_at.new.into c.deref_mut.result.now rest seen (c.in_ok-got.ensures.answer told).bytes room

    -- a page was read whole
    whole : length window ≡ 8 + size → (c.in_ok-got.got ≡ 8 + size) × (8 + size ≤ length rest) × (drop 8 c.deref.result.now ≡ part 8 size rest)
    whole long = page_is 8 size c.in_ok-got.got c.deref.result.now rest (omega (arith, ap length seen, room)) (omega (arith, room, c.in_ok-got.ensures.room)) is long

pub returns-in-Err-clause-answer : goal.returns-in-Err-clause-answer
returns-in-Err-clause-answer g c =
    let at = (goal.at.returns-in-Err-clause-answer g c).After-run_step in
    rw (c.broken.ensures, ← c.self.view_is) (refl, refl, λ told. run-broken (bytes g at) (reading g at) (window g at) (version g at) (left g at) (wide g at) (is g at told) c.in-Err.place c.in-Err.ensures.step)

pub returns-in-Ok-None-clause-answer : goal.returns-in-Ok-None-clause-answer
returns-in-Ok-None-clause-answer g c =
    let at = (goal.at.returns-in-Ok-None-clause-answer g c).After-run_step in
    rw (← c.self.view_is) (refl, refl, λ told. run-end (bytes g at) (reading g at) (window g at) (version g at) (left g at) (wide g at) (is g at told) (ap (λ (o : Option (ℕ × ℕ)). Ok o) (sym c.in-Ok-None.field-0-is) ∙ c.in-Ok-None.ensures.step))

pub returns-in-Ok-Some-clause-answer : goal.returns-in-Ok-Some-clause-answer
returns-in-Ok-Some-clause-answer g c =
    let at = (goal.at.returns-in-Ok-Some-clause-answer g c).After-run_step in
    let next : c.in-Ok-Some.field-0 ≡ Some (c.in-Ok-Some.number, c.in-Ok-Some.pages) = c.in-Ok-Some.field-0-is in
    let sound = subst (λ (o : Option (ℕ × ℕ)). IfSome o (λ p. (length (window g at) ≡ 8 + c.self.inside.head.page_size) × (c.self.inside.place.least ≤ p.0) × (1 ≤ p.1) × (p.1 ≤ 16) × (p.0 + p.1 ≤ most_pages))) next c.in-Ok-Some.ensures.run in
    let step = ap (λ (o : Option (ℕ × ℕ)). Ok o) (sym next) ∙ c.in-Ok-Some.ensures.step in
    rw (← c.self.view_is) (λ told.
    let page = whole g at told sound.0 in
    let copied = c.copy_from_slice.ensures.after ∙ to_end 8 c.deref-in-Ok-Some.result.now ∙ ap (drop 8) (c.deref-in-Ok-Some.ensures.value ∙ sym c.deref.ensures.value) ∙ page.2 in
    run-gives (bytes g at) (reading g at) (window g at) (version g at) (left g at) (wide g at) (is g at told) c.in_ok-got.got c.in-Ok-Some.number c.in-Ok-Some.pages c.copy_from_slice.new.self step page.0 sound.2 page.1 copied _
    (ap (λ (b : ℕ). record (reading g at) { place = record { at = c.self.inside.place.at + c.in_ok-got.got; count = c.self.inside.place.count + 1; least = c.in-Ok-Some.number + 1; barred = b; left = c.in-Ok-Some.pages - 1 } }) c.barred_after.ensures))

pub returns-in-Ok-Some-clause-there : goal.returns-in-Ok-Some-clause-there
returns-in-Ok-Some-clause-there g c =
    let at = (goal.at.returns-in-Ok-Some-clause-there g c).After-run_step in
    let next : c.in-Ok-Some.field-0 ≡ Some (c.in-Ok-Some.number, c.in-Ok-Some.pages) = c.in-Ok-Some.field-0-is in
    let due = subst (λ (o : Option (ℕ × ℕ)). IfSome o (λ p. p.0 ≡ number_in 0 4 (window g at))) next c.in-Ok-Some.ensures.number in
    let sound = subst (λ (o : Option (ℕ × ℕ)). IfSome o (λ p. (length (window g at) ≡ 8 + c.self.inside.head.page_size) × (c.self.inside.place.least ≤ p.0) × (1 ≤ p.1) × (p.1 ≤ 16) × (p.0 + p.1 ≤ most_pages))) next c.in-Ok-Some.ensures.run in
    rw (← c.self.view_is) (λ told.
    let page = whole g at told sound.0 in
    let copied = c.copy_from_slice.ensures.after ∙ to_end 8 c.deref-in-Ok-Some.result.now ∙ ap (drop 8) (c.deref-in-Ok-Some.ensures.value ∙ sym c.deref.ensures.value) ∙ page.2 in
    record {
      number = due ∙ ap (number_in 0 4) (is g at told) ∙ number_in-take (8 + c.self.inside.head.page_size) 0 4 (rest g at) (omega arith);
      page = copied;
      stands = ap (λ n. c.self.inside.place.at + n) page.0 ∙ omega arith;
    })
