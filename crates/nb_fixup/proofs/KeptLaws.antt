-- A copy of a kept backup has the image that its begin kept.
use Rattle.std.proofs.Common.{◌≡◌, ℕ, ◌%◌, List, length, refl, ap, ◌∙◌, false}
use Rattle.nb_fixup.proofs.Common.{mul-mod_left, size_of, guid_of, Files, image_in, delta_name, Formed, formed, IsFixable}
use Rattle.nb_host.specs.Names.{is_delta}
use Rattle.nb_model.specs.Account.{Kept, Account}
use Rattle.nb_model.specs.Sound.{IsSoundImage}
use Rattle.nb_model.specs.Stands.{to_record, IsBegun, IsCopyOf, IsKeptAs, Stands}
use Rattle.nb_model.proofs.OpenedLaws.{copy_image}
use Rattle.nb_fixup.proofs.CauseLaws.{IsFit}
use Rattle.nb_fixup.proofs.FixupLaws.{fixable_fit}

pub copy_kept : (files : Files) (account : Account) (name bytes : List ℕ) (r : Kept) → Stands files account → is_delta name ≡ false → IsFixable files name bytes → IsKeptAs account.kept (guid_of bytes) r → image_in bytes ≡ r.image
copy_kept files account name bytes r stands plain copy named =
    let fit : IsFit bytes (files (delta_name name)) = fixable_fit files name bytes copy in
    let facts : Formed bytes = formed bytes fit.formed in
    let whole : length bytes % size_of bytes ≡ 0 = ap (λ (n : ℕ). n % size_of bytes) facts.whole ∙ mul-mod_left facts.count (size_of bytes) in
    let begun : IsBegun r = stands.sound_images.records r named.there in
    let sound : IsSoundImage r.image = stands.sound_images.images r.image (to_record r named.there refl) in
    let pages : IsCopyOf r bytes = (stands.kept_records.levels name bytes plain copy.there).copy r facts.header fit.stalled whole named in
    copy_image r bytes pages begun.header sound fit.formed
