-- The files stand for the account with one record of a backup more, where no file names it.
use Rattle.std.proofs.Common.{◌≡◌, ◌≢◌, inl, inr, ⊎_elim, ◌⊎◌, ℕ, zero, suc, List, [], ◌∷◌, ◌++◌, sym, ap, subst, ◌∙◌, arith, Some, false, Contains}
use Rattle.nb_model.proofs.Common.{Contains-append_cases, guid_of, pending_of, Files, is_delta, Ask, Kept, Account, Image, image_guid, IsUnnamed, IsSoundImage, Stands, Belongs, to_base, to_record, IsKeptAs, IsBegun, IsParent, IsLineTo, IsAncestor, IsSpan, IsFileOf, HoldsItsRecord, GoesOn, NamesItsPast, GoesOnFrom, IsStopped, nil}
use Rattle.nb_model.proofs.PastLaws.{kept_more, past_more}

-- the record goes on from the one that it asks for, where it asks for one
abbrev pub HasParent : List Kept → Kept → Type 0
HasParent kept r = (ask : Ask) → r.ask ≡ Some ask → ask.previous ≢ nil → GoesOnFrom kept r ask

-- A record that no file names: it is as a begin leaves it, goes on from the one that it asks for, its image is sound and names its past,
-- and its GUID is new.
pub record IsFresh (files : Files) (kept : List Kept) (r : Kept) : Type 0 where
  pub begun : IsBegun r
  pub parent : HasParent kept r
  pub sound : IsSoundImage r.image
  pub past : NamesItsPast (kept ++ r ∷ []) r.image
  pub some : r.guid ≢ nil
  pub unkept : (q : Kept) → Contains kept q → q.guid ≢ r.guid
  pub unnamed : (name bytes : List ℕ) → is_delta name ≡ false → files name ≡ Some bytes → IsUnnamed bytes r.guid

-- the account with one record more
abbrev pub with_record : Kept → Account → Account
with_record r account = record { entry = account.entry; kept = account.kept ++ r ∷ [] }

module _ (files : Files) (account : Account) (r : Kept) (stands : Stands files account) (fresh : IsFresh files account.kept r) where
  abbrev more : List Kept
  more = account.kept ++ r ∷ []

  -- a record of these is one of those before, or the new one
  which : (q : Kept) → Contains more q → Contains account.kept q ⊎ (r ≡ q)
  which q there = ⊎_elim inl (λ (one : Contains (r ∷ []) q). inr (only q one)) (Contains-append_cases account.kept (r ∷ []) q there)
    where
      only : (q : Kept) → Contains (r ∷ []) q → r ≡ q
      only q (zero, low, is) = is
      only q (suc k, low, is) = absurd (omega (arith, low))

  kept_grows : (guid : List ℕ) (q : Kept) → IsKeptAs account.kept guid q → IsKeptAs more guid q
  kept_grows guid q h = kept_more account.kept (r ∷ []) guid q h

  -- the record of a GUID that isn't the new one was kept before
  kept_before : (guid : List ℕ) (q : Kept) → guid ≢ r.guid → IsKeptAs more guid q → IsKeptAs account.kept guid q
  kept_before guid q other h = ⊎_elim
      (λ there. record { there = there; named = h.named })
      (λ same. absurd (other (sym h.named ∙ ap (λ (x : Kept). x.guid) (sym same)))) (which q h.there)

  parent_grows : (q p : Kept) → IsParent account.kept q p → IsParent more q p
  parent_grows q p h = record { ask = h.ask; is = h.is; parent = kept_grows h.ask.previous q h.parent }

  line_grows : (between : List Kept) (q p : Kept) → IsLineTo account.kept q p between → IsLineTo more q p between
  line_grows [] q p h = parent_grows q p h
  line_grows (x ∷ xs) q p h = (parent_grows x p h.0, line_grows xs q x h.1)

  ancestor_grows : (q p : Kept) → IsAncestor account.kept q p → IsAncestor more q p
  ancestor_grows q p h = record { between = h.between; line = line_grows h.between q p h.line }

  span_grows : (p : Kept) (ask : Ask) → IsSpan account.kept p ask → IsSpan more p ask
  span_grows p ask h = record { from = h.from; ancestor = ancestor_grows h.from p h.ancestor; guid = h.guid; scn = h.scn; level = h.level }

  file_grows : (version : ℕ) (p : Kept) (bytes : List ℕ) → IsFileOf account.kept version p bytes → IsFileOf more version p bytes
  file_grows version p bytes (inl is) = inl is
  file_grows version p bytes (inr spanned) = inr (spanned.0, span_grows p spanned.0 spanned.1, spanned.2)

  holds_grows : (name bytes : List ℕ) → is_delta name ≡ false → files name ≡ Some bytes → HoldsItsRecord more bytes
  holds_grows name bytes plain there =
      let unnamed : IsUnnamed bytes r.guid = fresh.unnamed name bytes plain there in
      let old : HoldsItsRecord account.kept bytes = stands.kept_records.levels name bytes plain there in
      record {
        level = λ c q reads named. file_grows c.version q bytes (old.level c q reads (kept_before c.head.guid q (unnamed.level c reads) named));
        copy = λ q header stalled whole named. old.copy q header stalled whole (kept_before (guid_of bytes) q (unnamed.stalled header stalled) named);
      }

  stopped_grows : (bytes : List ℕ) (q : Kept) → IsStopped account.kept bytes q → IsStopped more bytes q
  stopped_grows bytes q h = record { formed = h.formed; size = h.size; from = h.from; ancestor = ancestor_grows h.from q h.ancestor; guid = h.guid; behind = h.behind; same = h.same }

  from_grows : (q : Kept) (ask : Ask) → GoesOnFrom account.kept q ask → GoesOnFrom more q ask
  from_grows q ask h = record { parent = h.parent; kept_as = kept_grows ask.previous h.parent h.kept_as; scn = h.scn; earlier = h.earlier; follows = h.follows }

  -- what holds of all images before and of the new record's holds of all
  each_image : (P : Image → Type 0) → ((x : Image) → Belongs account x → P x) → P r.image → (x : Image) → Belongs (with_record r account) x → P x
  each_image P old new x (to_base n b e is) = old x (to_base n b e is)
  each_image P old new x (to_record q there is) = ⊎_elim (λ before. old x (to_record q before is)) (λ same. subst P (ap (λ (y : Kept). y.image) same ∙ is) new) (which q there)

  pub stands_with_record : Stands files (with_record r account)
  stands_with_record = record {
    same_image = stands.same_image;
    frozen_main = stands.frozen_main;
    sound_images = record {
      images = each_image IsSoundImage stands.sound_images.images fresh.sound;
      records = λ q there. ⊎_elim (stands.sound_images.records q) (λ same. subst IsBegun same fresh.begun) (which q there);
    };
    kept_records = record {
      distinct = λ p q a b same. ⊎_elim
          (λ pa. ⊎_elim (λ qb. stands.kept_records.distinct p q pa qb same) (λ is. absurd (fresh.unkept p pa (same ∙ ap (λ (x : Kept). x.guid) (sym is)))) (which q b))
          (λ is. ⊎_elim (λ qb. absurd (fresh.unkept q qb (sym same ∙ ap (λ (x : Kept). x.guid) (sym is)))) (λ other. sym is ∙ other) (which q b))
          (which p a);
      not_nil = λ q there. ⊎_elim (stands.kept_records.not_nil q) (λ same. subst (λ (x : Kept). x.guid ≢ nil) same fresh.some) (which q there);
      stalled = λ n b e is. let old = stands.kept_records.stalled n b e is in (old.0, kept_grows (image_guid b.image) old.0 old.1);
      levels = holds_grows;
    };
    history = record {
      images = each_image (NamesItsPast more) (λ x belongs. past_more account.kept (r ∷ []) (λ q. GoesOn q x) x (stands.history.images x belongs)) fresh.past;
      records = λ q ask there is asks. ⊎_elim (λ before. from_grows q ask (stands.history.records q ask before is asks)) (λ same. from_grows q ask (subst (HasParent account.kept) same fresh.parent ask is asks)) (which q there);
    };
    no_stray = stands.no_stray;
    standbys = λ n bytes q plain there applying named.
        stopped_grows bytes q (stands.standbys n bytes q plain there applying (kept_before (pending_of bytes) q ((fresh.unnamed n bytes plain there).pending applying) named));
  }
