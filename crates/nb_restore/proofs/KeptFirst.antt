-- Level 0 of a chain whose records are kept: the pages of its record, and pages of zeros after.
use Rattle.std.proofs.Common.{◌≡◌, ℕ, ◌/◌, ◌%◌, ◌≤◌, List, ◌++◌, length, refl, ap, subst, ◌∙◌, arith, div-add-mod', true, false, not, ◌||◌, ◌==◌, nat_lt, Some, None}
use Rattle.nb_restore.proofs.Common.{eqb-true, or_parts, is_header, size_of, guid_of, size_facts, most_pages, Files, is_delta, Page, Image, image_size, image_in, Kept, Account, not_database, joined, HoldsFirst, Link, is_bad_length, IsOfSize, IsSoundImage, to_record, IsKeptAs, IsBegun, IsCopyOf, Stands, header-size, all-right, IsLaid, laid, copy_image, not_false, not_lt}
use Rattle.nb_model.proofs.FormLaws.{no_cause}
use Rattle.nb_restore.proofs.AskLaws.{with_ask, begun_with}
use Rattle.nb_restore.proofs.ChainLaws.{IsCopy}

-- so many whole pages as a database may have
record HasGoodLength (bytes : List ℕ) : Type 0 where
  whole : length bytes % size_of bytes ≡ 0
  least : 5 ≤ length bytes / size_of bytes
  most : length bytes / size_of bytes ≤ most_pages

good_length : (bytes : List ℕ) → is_bad_length bytes ≡ false → HasGoodLength bytes
good_length bytes good =
    let count : ℕ = length bytes / size_of bytes in
    let parts = or_parts (not (length bytes % size_of bytes == 0)) (nat_lt count 5 || nat_lt most_pages count) good in
    let counts = or_parts (nat_lt count 5) (nat_lt most_pages count) parts.1 in
    record { whole = eqb-true (length bytes % size_of bytes) 0 (not_false _ parts.0); least = not_lt 5 count counts.0; most = not_lt count most_pages counts.1 }

is_formed : (bytes : List ℕ) → is_header bytes ≡ true → HasGoodLength bytes → not_database bytes ≡ None
is_formed bytes header good =
    let wide = (size_facts (size_of bytes) (header-size bytes header)).at_least in
    no_cause bytes (size_of bytes) (length bytes / size_of bytes) header refl (omega (arith, wide)) (omega (arith, div-add-mod' (length bytes) (size_of bytes), good.whole)) good.least good.most

-- the file of that name holds the pages of a record
pub record HoldsKeptFirst (files : Files) (name : List ℕ) (r : Kept) : Type 0 where
  pub zeros : Image
  pub holds : HoldsFirst files (with_ask None r) zeros name

pub kept_first : (files : Files) (account : Account) → Stands files account → (name bytes : List ℕ) → is_delta name ≡ false → files name ≡ Some bytes → (l : Link) → IsCopy bytes l → (r : Kept) → IsKeptAs account.kept l.guid r
    → HoldsKeptFirst files name r
kept_first files account stands name bytes plain there l copy r named =
    let good : HasGoodLength bytes = good_length bytes copy.whole in
    let formed : not_database bytes ≡ None = is_formed bytes copy.header good in
    let begun : IsBegun r = stands.sound_images.records r named.there in
    let sound : IsSoundImage r.image = stands.sound_images.images r.image (to_record r named.there refl) in
    let its : IsKeptAs account.kept (guid_of bytes) r = subst (λ (g : List ℕ). IsKeptAs account.kept g r) (ap (λ (x : Link). x.guid) copy.is) named in
    let pages : IsCopyOf r bytes = (stands.kept_records.levels name bytes plain there).copy r copy.header copy.stalled good.whole its in
    let image : image_in bytes ≡ r.image = copy_image r bytes pages begun.header sound formed in
    let is : IsLaid (image_in bytes) bytes = laid bytes formed in
    record {
      zeros = is.rest;
      holds = record {
        is = there ∙ ap (λ (x : List ℕ). Some x) (is.is ∙ ap (λ (x : Image). joined (x ++ is.rest)) image);
        zero = is.zeros;
        sizes = all-right (λ (page : Page). length page ≡ image_size r.image) r.image is.rest (subst (λ (x : Image). IsOfSize (image_size x) (x ++ is.rest)) image is.sizes);
        most = subst (λ (x : Image). length (x ++ is.rest) ≤ most_pages) image is.most;
        whole = sound;
        begun = begun_with None r begun;
      };
    }
