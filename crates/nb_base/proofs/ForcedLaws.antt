-- Whether writes are forced stays as it is where a backup begins or ends and where a merge ends: the flag stands behind the control block.
use Rattle.std.proofs.Common.{◌≡◌, inl, ℕ, ◌+◌, List, length, ap, ◌∙◌, arith, Option, true, not, ◌==◌}
use Rattle.nb_base.proofs.Common.{number_in, is_header, length-part, Page, Image, first_page, image_scn, image_guid, is_forced, trimmed, Ask, Base, with_control, begin, ends, finish, on_base, control_other, header-long, some_page, trimmed_front, finish_base}
use Rattle.nb_base.proofs.ControlLaws.{with_control-first}

-- as page 0 says it
pub forced_in : (a b : Image) → first_page a ≡ first_page b → is_forced a ≡ is_forced b
forced_in a b same = ap (λ (x : Page). not (number_in 64 1 x == 0)) same

control_forced : (state scn : ℕ) (guid : List ℕ) (image : Image) → is_header (first_page image) ≡ true → length guid ≡ 16 → is_forced (with_control state scn guid image) ≡ is_forced image
control_forced state scn guid image header sixteen =
    let first = with_control-first state scn guid image (some_page image header) in
    let long = header-long (first_page image) header in
    ap (λ (n : ℕ). not (n == 0))
    (ap (number_in 64 1) first ∙ control_other state scn guid (first_page image) long sixteen 64 1 (inl (omega arith)) (inl (omega arith)) (inl (omega arith)) (inl (omega arith)) (inl (omega arith)))

guid_long : (image : Image) → is_header (first_page image) ≡ true → length (image_guid image) ≡ 16
guid_long image header = let far = header-long (first_page image) header in length-part 32 16 (first_page image) (omega (arith, far))

pub begun_forced : (guid : List ℕ) (ask : Option Ask) (b : Base) → is_header (first_page b.image) ≡ true → length guid ≡ 16 → is_forced (on_base (begin guid ask) b).image ≡ is_forced b.image
unfolding on_base
begun_forced guid ask b header sixteen = control_forced 1 (image_scn b.image + 1) guid b.image header sixteen

pub ended_forced : (b : Base) → is_header (first_page b.image) ≡ true → is_forced (on_base ends b).image ≡ is_forced b.image
unfolding on_base
ended_forced b header = control_forced 2 (image_scn b.image + 1) (image_guid b.image) b.image header (guid_long b.image header)

pub finished_forced : (b : Base) → is_header (first_page b.image) ≡ true → is_forced (on_base finish b).image ≡ is_forced b.image
finished_forced b header =
    let front = trimmed_front b.image header in
    ap (λ (x : Base). is_forced x.image) (finish_base b) ∙ control_forced 0 (image_scn b.image) (image_guid b.image) (trimmed b.image) (ap is_header front ∙ header) (guid_long b.image header) ∙ forced_in (trimmed b.image) b.image front
