use Rattle.std.proofs.Common.{◌≡◌, ◌<◌, ◌≤◌, ℕ, subst, ◌∙◌, arith, ap, true, false, None, OnOk, IfOk}
use Rattle.nb_alloc.proofs.Common.{looks_then, most_pages, Draft, is_kind, lowest_free, Tested, Behind, IsKnown, behind_cause, second_data, HoldsMap, new_of, Held}
use Rattle.nb_alloc.proofs.DoesLaws.{tested_on}
use Rattle.nb_alloc.proofs.PassLaws.{none_is}
use Rattle.nb_alloc.proofs.RoomsLaws.{tested_where, ended_alike, found_ok, value_found, behind_judged}
use Rattle.nb_alloc.proofs.rooms.check_rooms.Goals as goal

pub returns-in_err-behind-clause-one : goal.returns-in_err-behind-clause-one
returns-in_err-behind-clause-one g c t first tells is shaped short is_data count_is =
    let image = t.base.image in
    tested_on Behind ℕ _ _ None (behind_cause (new_of 5 first image).0 c.args.number) c.from_residual.ensures (λ r e. none_is r (behind_cause (new_of 5 first image).0 c.args.number) e) tt

pub returns-clause-one : goal.returns-clause-one
returns-clause-one g c t first tells is shaped short is_data count_is =
    let image = t.base.image in
    let d : Draft = (new_of 5 first image).0 in
    let b : Behind = c.find_rooms-found.new.behind in
    let judges = c.find_rooms-found.ensures.one t first tells (c.in_ok-behind.ensures.looks.opened t tells is) shaped short (c.in_ok-behind.ensures.known t tells is is_data) count_is in
    tested_where c.judge.result (IsKnown image d.image b) (behind_cause d c.args.number) (ended_alike c.find_rooms-found.result c.judge.result (IsKnown image d.image b) c.judge.ensures.ended judges.known)
    (λ known. subst (Tested c.judge.result) (behind_judged d image b c.args.number (c.find_rooms-found.ensures.page ∙ c.in_ok-behind.ensures.page) known) (c.judge.ensures.test d.broken d.full judges.test))

pub returns-in_err-behind-clause-two : goal.returns-in_err-behind-clause-two
returns-in_err-behind-clause-two g c t first second tells is shaped short small is_data count_is =
    let image = t.base.image in
    tested_on Behind ℕ _ _ None (behind_cause (second_data first second image).0 c.args.number) c.from_residual.ensures (λ r e. none_is r (behind_cause (second_data first second image).0 c.args.number) e) tt

pub returns-clause-two : goal.returns-clause-two
returns-clause-two g c t first second tells is shaped short small is_data count_is =
    let image = t.base.image in
    let d : Draft = (second_data first second image).0 in
    let b : Behind = c.find_rooms-found.new.behind in
    let judges = c.find_rooms-found.ensures.two t first second tells (c.in_ok-behind.ensures.looks.opened t tells is) shaped short small (c.in_ok-behind.ensures.known t tells is is_data) count_is in
    tested_where c.judge.result (IsKnown image d.image b) (behind_cause d c.args.number) (ended_alike c.find_rooms-found.result c.judge.result (IsKnown image d.image b) c.judge.ensures.ended judges.known)
    (λ known. subst (Tested c.judge.result) (behind_judged d image b c.args.number (c.find_rooms-found.ensures.page ∙ c.in_ok-behind.ensures.page) known) (c.judge.ensures.test d.broken d.full judges.test))

pub returns-clause-still : goal.returns-clause-still
returns-clause-still g c t first tells is shaped short is_data count_is =
    let image = t.base.image in
    let b : Behind = c.find_rooms-found.new.behind in
    found_ok c.find_rooms-found.result c.judge.result (b.lost ≡ false) (is_kind (new_of 5 first image).0.image 5 c.args.number ≡ true) c.judge.ensures.value c.judge.ensures.kept
    (subst (λ (n : ℕ). OnOk c.find_rooms-found.result (b.lost ≡ false → is_kind (new_of 5 first image).0.image 5 n ≡ true)) c.in_ok-behind.ensures.page
    (c.find_rooms-found.ensures.still t first tells (c.in_ok-behind.ensures.looks.opened t tells is) shaped short (c.in_ok-behind.ensures.known t tells is is_data) count_is))

pub returns-clause-value : goal.returns-clause-value
returns-clause-value g c t tells is = value_found c.find_rooms-found.result c.judge.result (λ page. page ≡ lowest_free t.base.image) c.judge.ensures.value (c.find_rooms-found.ensures.value t tells (c.in_ok-behind.ensures.looks.opened t tells is))

pub returns-clause-map : goal.returns-clause-map
returns-clause-map g c t tells is count_is =
    value_found c.find_rooms-found.result c.judge.result (λ page. HoldsMap t.base.image page c.find_rooms-found.new.map) c.judge.ensures.value (c.find_rooms-found.ensures.map t tells (c.in_ok-behind.ensures.looks.opened t tells is) count_is)

pub returns-clause-least : goal.returns-clause-least
returns-clause-least g c = value_found c.find_rooms-found.result c.judge.result (λ page. 5 ≤ page) c.judge.ensures.value c.find_rooms-found.ensures.least

pub returns-clause-below : goal.returns-clause-below
returns-clause-below g c = value_found c.find_rooms-found.result c.judge.result (λ page. page < most_pages) c.judge.ensures.value c.find_rooms-found.ensures.below

pub returns-clause-looks : goal.returns-clause-looks
returns-clause-looks g c = looks_then c.in_ok-behind.ensures.looks c.find_rooms-found.ensures.looks

pub returns-clause-within : goal.returns-clause-within
returns-clause-within g c le =
    let same = ap (λ (h : Held). h.files.count) c.in_ok-behind.ensures.looks.same in
    subst (λ (n : ℕ). IfOk c.judge.result (λ page. page ≤ n)) same
    (value_found c.find_rooms-found.result c.judge.result (λ page. page ≤ c.at.new.store.files.count) c.judge.ensures.value (c.find_rooms-found.ensures.within (omega (arith, same, le))))
