use Rattle.std.proofs.Common.{◌≡◌, ◌+◌, ◌≤◌, List, ℕ, ◌<◌, take, drop, length, Option, Some, Ok, IfSome, subst, refl, sym, ap, ◌∙◌, arith, IsTrue}
use Rattle.nb_level.proofs.Common.{number_in, part, number_in-take, size_facts, most_pages, bytes_of, Reading}
use Rattle.nb_level.proofs.NextLaws.{filled, to_end, window_is, page_is, single-broken, single-end, single-gives}
use Rattle.nb_level.proofs.reader.LevelReader.next_single.Goals as goal
use Rattle.nb_level.proofs.reader.LevelReader.next_single.Goals.{After-single_step}

-- What was read.
module _ (g : _) (c : goal.After-single_step g) where
  abbrev reading : Reading
  reading = record { name = c.self.inside.name; version = c.self.inside.version; head = c.self.inside.head; place = c.self.inside.place }

  abbrev bytes : List ℕ
  bytes = bytes_of ((g.H.Host.world c.args.host.now).files c.self.inside.name)

  abbrev rest : List ℕ
  rest = drop c.self.inside.place.at bytes

  abbrev size : ℕ
  size = c.self.inside.head.page_size

  abbrev window : List ℕ
  window = take c.in_ok-got.got c.deref.result.now

  version : c.self.inside.version ≡ 101
  version = ap (λ (v : Reading). v.version) c.self.view_is ∙ c.requires.version

  wide : 5 ≤ size
  wide = omega (arith, (size_facts size c.self.invariant.size).at_least)

  room : length c.deref_mut.result.now ≡ 4 + size
  room = ap length c.deref_mut.ensures.value ∙ c.self.invariant.room_101 version

  seen : c.deref.result.now ≡ c.read_at.new.into
  seen = c.deref.ensures.value ∙ filled c.self.inside.buffer.len c.read_at.new.into c.self.inside.buffer.items (omega (arith, room))

  module _ (told : IsTrue g.H.Host.tells) where
    is : window ≡ take (4 + size) rest
    is = window_is c.in_ok-got.got (4 + size) c.deref.result.now c.read_at.new.into c.deref_mut.result.now rest seen (c.in_ok-got.ensures.answer told).bytes room

    -- a page was read whole
    whole : length window ≡ 4 + size → (c.in_ok-got.got ≡ 4 + size) × (4 + size ≤ length rest) × (drop 4 c.deref.result.now ≡ part 4 size rest)
    whole long = page_is 4 size c.in_ok-got.got c.deref.result.now rest (omega (arith, ap length seen, room)) (omega (arith, room, c.in_ok-got.ensures.room)) is long

pub returns-in-Err-clause-answer : goal.returns-in-Err-clause-answer
returns-in-Err-clause-answer g c =
    let at = (goal.at.returns-in-Err-clause-answer g c).After-single_step in
    rw (c.broken.ensures, ← c.self.view_is) (refl, refl, λ told. single-broken (bytes g at) (reading g at) (window g at) (version g at) (wide g at) (is g at told) c.in-Err.place c.in-Err.ensures.step)

pub returns-in-Ok-None-clause-answer : goal.returns-in-Ok-None-clause-answer
returns-in-Ok-None-clause-answer g c =
    let at = (goal.at.returns-in-Ok-None-clause-answer g c).After-single_step in
    rw (← c.self.view_is) (refl, refl, λ told. single-end (bytes g at) (reading g at) (window g at) (version g at) (wide g at) (is g at told) (ap (λ (o : Option (ℕ × ℕ)). Ok o) (sym c.in-Ok-None.field-0-is) ∙ c.in-Ok-None.ensures.step))

pub returns-in-Ok-Some-clause-answer : goal.returns-in-Ok-Some-clause-answer
returns-in-Ok-Some-clause-answer g c =
    let at = (goal.at.returns-in-Ok-Some-clause-answer g c).After-single_step in
    let next : c.in-Ok-Some.field-0 ≡ Some (c.in-Ok-Some.number, c.in-Ok-Some.field-0-0-1) = c.in-Ok-Some.field-0-is in
    let sound = subst (λ (o : Option (ℕ × ℕ)). IfSome o (λ p. (length (window g at) ≡ 4 + c.self.inside.head.page_size) × (c.self.inside.place.least ≤ p.0) × (p.0 < most_pages))) next c.in-Ok-Some.ensures.page in
    let step = ap (λ (o : Option (ℕ × ℕ)). Ok o) (sym next) ∙ c.in-Ok-Some.ensures.step in
    rw (← c.self.view_is) (λ told.
    let page = whole g at told sound.0 in
    let copied = c.copy_from_slice.ensures.after ∙ to_end 4 c.deref-in-Ok-Some.result.now ∙ ap (drop 4) (c.deref-in-Ok-Some.ensures.value ∙ sym c.deref.ensures.value) ∙ page.2 in
    single-gives (bytes g at) (reading g at) (window g at) (version g at) (wide g at) (is g at told) c.in_ok-got.got c.in-Ok-Some.number c.in-Ok-Some.field-0-0-1 c.copy_from_slice.new.self step page.0 copied _ _ _ refl)

pub returns-in-Ok-Some-clause-there : goal.returns-in-Ok-Some-clause-there
returns-in-Ok-Some-clause-there g c =
    let at = (goal.at.returns-in-Ok-Some-clause-there g c).After-single_step in
    let next : c.in-Ok-Some.field-0 ≡ Some (c.in-Ok-Some.number, c.in-Ok-Some.field-0-0-1) = c.in-Ok-Some.field-0-is in
    let due = subst (λ (o : Option (ℕ × ℕ)). IfSome o (λ p. p.0 ≡ number_in 0 4 (window g at))) next c.in-Ok-Some.ensures.number in
    let sound = subst (λ (o : Option (ℕ × ℕ)). IfSome o (λ p. (length (window g at) ≡ 4 + c.self.inside.head.page_size) × (c.self.inside.place.least ≤ p.0) × (p.0 < most_pages))) next c.in-Ok-Some.ensures.page in
    rw (← c.self.view_is) (λ told.
    let page = whole g at told sound.0 in
    let copied = c.copy_from_slice.ensures.after ∙ to_end 4 c.deref-in-Ok-Some.result.now ∙ ap (drop 4) (c.deref-in-Ok-Some.ensures.value ∙ sym c.deref.ensures.value) ∙ page.2 in
    record {
      number = due ∙ ap (number_in 0 4) (is g at told) ∙ number_in-take (4 + c.self.inside.head.page_size) 0 4 (rest g at) (omega arith);
      page = copied;
      stands = ap (λ n. c.self.inside.place.at + n) page.0 ∙ omega arith;
    })
