-- A merge of a kept backup: it gives the image that the begin of the backup kept, and what is half merged can be gone on with.
use Rattle.std.proofs.Common.{◌≡◌, ◌≢◌, inr, ℕ, ◌<◌, ◌≤◌, List, length, refl, sym, ap, subst, ◌∙◌, arith, Some, Ok, Contains}
use Rattle.nb_inplace.proofs.Common.{stamp_of, state_of, size_of, guid_of, pending_of, normal_state, applying_state, File, Files, Kept, base_of, Plain, IsBase, Account, with_entry, Image, Numbered, first_page, image_guid, image_in, trimmed, overwritten, written_since, other_pages, Contents, delta_name, owner, entry_of_files, IsSoundImage, nil, IsKeptAs, to_base, to_record, IsBegun, GoesOn, NamesItsPast, HoldsItsRecord, IsStopped, Stands, as_standby, merged, owner_main, header_no_level, opened_entry, StandsUnder, stands_with_both, IsBetween, IsHalf, formed, some_same, plain_base}
use Rattle.nb_inplace.specs.Kept.{MergesBackup}
use Rattle.nb_inplace.proofs.ClosedLaws.{closed_entry, is_applying_so, half_header, half_applying, half_closed}
use Rattle.nb_inplace.proofs.HalfLaws.{front_size, front_guid, half_state, half_pending, half_size, half_previous}
use Rattle.nb_inplace.proofs.KeptLaws.{IsOfRecord, of_record, ancestor_there}
use Rattle.nb_inplace.proofs.SeenLaws.{image_seen, none_seen, none_there}
use Rattle.nb_inplace.proofs.VerdictLaws.{GoesOnFrom, IsTheSame, IsFor, as_it_stands, begun, IsAccepted, accepted}
use Rattle.nb_inplace.proofs.WayLaws.{IsOnTheWay, way_gives, way_on, way_begins}

module _ (files : Files) (account : Account) (stands : Stands files account) (standby name bytes : List ℕ) (c : Contents) (merges : MergesBackup files standby name bytes c) where
  abbrev its : IsAccepted files name bytes c
  its = accepted files standby name bytes c merges.mergeable

  abbrev image : Image
  image = image_in bytes

  module _ (r : Kept) (named : IsKeptAs account.kept c.head.guid r) where
    its_begun : IsBegun r
    its_begun = stands.sound_images.records r named.there

    its_sound : IsSoundImage r.image
    its_sound = stands.sound_images.images r.image (to_record r named.there refl)

    some_pages : 1 ≤ length r.image
    some_pages = omega (arith, its_sound.least)

    of : c.head.previous ≢ nil → IsOfRecord account.kept r c
    of some = of_record files account stands name its.level c r merges.level_plain its.there its.read named some

    -- the level file goes on from a record, and the standby is on the way from its image
    record IsFromRecord : Type 0 where
      record_of : IsOfRecord account.kept r c
      way : IsOnTheWay (size_of bytes) record_of.from.scn r.image image

    -- 1. In the normal state: it goes on from the record that it names, and wasn't written since.
    from_normal : state_of bytes ≡ normal_state → GoesOnFrom name bytes c → IsFromRecord
    from_normal zero_is on =
        let opens : owner standby (files standby) (files (delta_name standby)) ≡ Ok (base_of image) =
        owner_main standby image (files standby) (files (delta_name standby)) (record { bytes = bytes; there = merges.mergeable.there; formed = its.formed; normal = zero_is; is = refl }) in
        let entry : account.entry standby ≡ IsBase (base_of image) =
        stands.same_image standby merges.plain ∙ opened_entry standby (files standby) (files (delta_name standby)) bytes (base_of image) merges.mergeable.there opens in
        let past : NamesItsPast account.kept image = stands.history.images image (to_base standby (base_of image) entry refl) in
        let guid : image_guid image ≡ guid_of bytes = front_guid bytes its.formed in
        let last = past.last (λ none. merges.restored zero_is (sym guid ∙ none)) in
        let o : IsOfRecord account.kept r c = of (λ none. merges.restored zero_is (sym on.previous ∙ none)) in
        let same : last.0 ≡ o.from = stands.kept_records.distinct last.0 o.from last.1.there o.there (last.1.named ∙ guid ∙ sym on.previous ∙ o.previous) in
        let goes : GoesOn o.from image = subst (λ (q : Kept). GoesOn q image) same last.2 in
        record {
          record_of = o;
          way = way_begins name (size_of bytes) o.from.scn o.from.image r.image image o.leads.follows goes.follows (ap (λ (s : ℕ). written_since name s (other_pages image)) (sym o.scn) ∙ on.unwritten) some_pages;
        }

    -- 2. In the applying state the files that stand for the account tell that.
    from_begun : state_of bytes ≡ applying_state → IsTheSame bytes c → IsFromRecord
    from_begun three same =
        let stopped : IsStopped account.kept bytes r =
        stands.standbys standby bytes r merges.plain merges.mergeable.there (is_applying_so bytes (formed bytes its.formed).header three) (subst (λ (g : List ℕ). IsKeptAs account.kept g r) (sym same.pending) named) in
        let there : Contains account.kept stopped.from = ancestor_there account.kept stopped.ancestor.between stopped.from r stopped.ancestor.line in
        let o : IsOfRecord account.kept r c = of (λ none. stands.kept_records.not_nil stopped.from there (sym stopped.guid ∙ same.previous ∙ none)) in
        let from_same : stopped.from ≡ o.from = stands.kept_records.distinct stopped.from o.from there o.there (sym stopped.guid ∙ same.previous ∙ o.previous) in
        let scn_same : stopped.from.scn ≡ o.from.scn = ap (λ (q : Kept). q.scn) from_same in
        record {
          record_of = o;
          way = record {
            same = λ p behind low early. sym (image_seen bytes its.formed p) ∙ stopped.same p behind low (omega (arith, early, scn_same));
            behind = none_seen bytes its.formed (length r.image) stopped.behind;
          };
        }

    from_record : IsFromRecord
    from_record = by its.for
      where
        by : IsFor name bytes c → IsFromRecord
        by (as_it_stands is on) = from_normal is on
        by (begun is same) = from_begun is same

    abbrev o : IsOfRecord account.kept r c
    o = from_record.record_of

    -- page 0 is later than the record that it goes on from
    first_late : o.from.scn < stamp_of (first_page r.image)
    first_late = omega (arith, its_sound.sound.stamps.head, its_begun.scn, o.leads.earlier)

    -- So the merge gives the image of the record.
    pub kept_gives : merged c.pages image ≡ as_standby r.image
    unfolding merged
    kept_gives =
        ap (λ (n : ℕ). as_standby (trimmed (overwritten n c.pages image))) (front_size bytes its.formed) ∙ ap (λ (rs : List Numbered). as_standby (trimmed (overwritten (size_of bytes) rs image))) o.pages
        ∙ ap as_standby (way_gives (size_of bytes) o.from.scn r.image image from_record.way some_pages first_late its_sound.sound.no_zeros)

    -- And what is half merged can be gone on with.
    module _ (half : List ℕ) (h : IsHalf bytes c half) where
      same_size : size_of half ≡ size_of bytes
      same_size = half_size files standby name bytes c merges.mergeable half h

      way_half : IsOnTheWay (size_of half) o.from.scn r.image (image_in half)
      way_half =
          subst (λ (n : ℕ). IsOnTheWay n o.from.scn r.image (image_in half)) (sym same_size)
          (way_on (size_of bytes) o.from.scn r.image image from_record.way some_pages (image_in half) (subst (λ (rs : List Numbered). IsBetween (size_of bytes) rs image (image_in half)) o.pages h.pages))

      pub kept_stopped : IsStopped account.kept half r
      kept_stopped = record {
        formed = h.formed;
        size = same_size ∙ sym its.size ∙ o.size;
        from = o.from;
        ancestor = o.ancestor;
        guid = half_previous files standby name bytes c merges.mergeable half h ∙ o.previous;
        behind = none_there half h.formed (length r.image) way_half.behind;
        same = λ p behind low early. image_seen half h.formed p ∙ way_half.same p behind low early;
      }

  -- 3. Files in which the standby is half merged stand for the account with it as a plain file, whatever became of the others meanwhile.
  module _ (half : List ℕ) (h : IsHalf bytes c half) (then : Account) (same_kept : then.kept ≡ account.kept) (new : Files) (here : new standby ≡ Some half) where
    its_state : state_of half ≡ applying_state
    its_state = half_state files standby name bytes c merges.mergeable half h

    abbrev beside : File
    beside = new (delta_name standby)

    is_it : (x : List ℕ) → new standby ≡ Some x → half ≡ x
    is_it x there = some_same half x (sym here ∙ there)

    holds_none : HoldsItsRecord then.kept half
    holds_none = record {
      level = λ d r reads named. absurd (header_no_level half d (half_header files standby name bytes c merges.mergeable half h) reads);
      copy = λ r header stalled whole named. absurd (omega (arith, stalled, its_state));
    }

    waits : (r : Kept) → IsKeptAs then.kept (pending_of half) r → IsStopped then.kept half r
    waits =
        subst (λ (ks : List Kept). (r : Kept) → IsKeptAs ks (pending_of half) r → IsStopped ks half r) (sym same_kept)
        (λ r pending. kept_stopped r (subst (λ (g : List ℕ). IsKeptAs account.kept g r) (half_pending files standby name bytes c merges.mergeable half h) pending) half h)

    half_under : StandsUnder new then.kept standby (Plain half beside)
    half_under = record {
      same = sym (ap (λ (f : File). entry_of_files standby f beside) here ∙ closed_entry standby half beside _ (half_closed files standby name bytes c merges.mergeable half h beside));
      frozen = λ b e stalled. absurd (plain_base half beside b e);
      sound = λ b e. absurd (plain_base half beside b e);
      stalled = λ b e stalled. absurd (plain_base half beside b e);
      past = λ b e. absurd (plain_base half beside b e);
      holds = λ x there. subst (HoldsItsRecord then.kept) (is_it x there) holds_none;
      no_stray = λ some. inr (half, here, half_applying files standby name bytes c merges.mergeable half h);
      standby = λ x r there applying named. subst (λ (y : List ℕ). IsKeptAs then.kept (pending_of y) r → IsStopped then.kept y r) (is_it x there) (waits r) named;
    }

    pub half_stands : (mid : Files) → Stands mid then → ((m : List ℕ) → m ≢ standby → m ≢ delta_name standby → new m ≡ mid m) → Stands new (with_entry standby (Plain half beside) then)
    half_stands mid still others = stands_with_both mid new then standby (Plain half beside) still merges.plain others half_under
