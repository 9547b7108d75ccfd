-- A look finds exactly what stands there.
use Rattle.std.proofs.Common.{◌≡◌, ◌≢◌, ◌⊎◌, inl, inr, ℕ, List, refl, sym, ap, subst, ◌∙◌, Bool, true, false, not, ◌==◌, Some, None, Result, Ok, Err}
use Rattle.nb_ship.proofs.Common.{state_of, guid_of, pending_of, applying_state, normal_state, Cause, File, Files, bytes_of, same_name, Refusal, Access, FileExists, ChainGuid, Unfinished, image_in, is_read_only, is_header, is_another, is_free_file, is_free_name-false, has_delta, first_cause, not_database, not_standby, Contents, read_level, free_no_level, header_no_level, is_free_name, is_foreign, by_head, by_pending, by_ship, read_in, with_guid, found_in, look_at, ship_of, Found, Look, Nothing, Broken, Applied, Next, Pending, err_not_ok, ok_same, or_from, or_parts, not_false, same_other, same_self, told_text, true≢false}
use Rattle.nb_ship.proofs.Common.{Finds, HoldsLevel, IsIn, IsReady, standby_there, standby_state}
use Rattle.nb_ship.proofs.ReadLaws.{no_bytes}
use Rattle.nb_ship.proofs.FoundLaws.{found_is, look_is, look_finds}

same_text : (a b : List ℕ) → same_name a b ≡ true → a ≡ b
same_text a b e = told_text a b true (sym e)

same_texts : (a b : List ℕ) → a ≡ b → same_name a b ≡ true
same_texts a b e = ap (same_name a) (sym e) ∙ same_self a

other_text : (a b : List ℕ) → same_name a b ≡ false → a ≢ b
other_text a b e is = true≢false (sym (same_texts a b is) ∙ e)

-- a level file is no free name, and not foreign where it stands alone
module _ (files : Files) (name : List ℕ) (c : Contents) (read : read_in files name ≡ Ok c) where
  pub level_used : is_free_name files name ≡ false
  level_used = is_free_name-false files name (by (is_free_file (files name)) refl (files name) refl)
    where
      by : (t : Bool) → is_free_file (files name) ≡ t → (file : File) → files name ≡ file → is_free_file (files name) ≡ false
      by false used file is = used
      by true free None is = absurd (err_not_ok no_bytes.0 c (read_in files name) (ap (λ (f : File). read_level (bytes_of f)) is ∙ no_bytes.1) read)
      by true free (Some bytes) is = absurd (free_no_level bytes c (ap is_free_file (sym is) ∙ free) (ap (λ (f : File). read_level (bytes_of f)) (sym is) ∙ read))

  no_header : is_header (bytes_of (files name)) ≡ false
  no_header = by (is_header (bytes_of (files name))) refl
    where
      by : (t : Bool) → is_header (bytes_of (files name)) ≡ t → is_header (bytes_of (files name)) ≡ false
      by false is = is
      by true is = absurd (header_no_level (bytes_of (files name)) c is read)

  pub level_own : has_delta files name ≡ false → is_foreign files name ≡ false
  unfolding is_foreign
  level_own alone = or_from _ _ no_header alone

own_alone : (files : Files) (name : List ℕ) → is_foreign files name ≡ false → has_delta files name ≡ false
unfolding is_foreign
own_alone files name own = (or_parts (is_header (bytes_of (files name))) (has_delta files name) own).1

-- ---- what was found stands there

module _ (files : Files) (standby bytes : List ℕ) where
  abbrev ship : List ℕ
  ship = ship_of standby

  module _ (ready : IsReady files standby bytes) where
    by_previous : (c : Contents) → HoldsLevel files ship c → (old : same_name c.head.guid (guid_of bytes) ≡ false) (t : Bool) → same_name c.head.previous (guid_of bytes) ≡ t → (found : Found)
        → elim t as (λ x. Result Found Refusal) [ true ↦ Ok (Next c.head.guid) | false ↦ Err (ChainGuid ship c.head.previous (guid_of bytes)) ] ≡ Ok found → Finds files standby bytes found
    by_previous c level old false is found e = absurd (err_not_ok (ChainGuid ship c.head.previous (guid_of bytes)) found _ refl e)
    by_previous c level old true is found e =
        subst (Finds files standby bytes) (ok_same (Next c.head.guid) found (Ok (Next c.head.guid)) refl e)
        (ready, record { contents = c; level = level; named = refl; goes_on = same_text c.head.previous (guid_of bytes) is; new = other_text c.head.guid (guid_of bytes) old })

    by_guid : (c : Contents) → HoldsLevel files ship c → (t : Bool) → same_name c.head.guid (guid_of bytes) ≡ t → (found : Found)
        → elim t as (λ x. Result Found Refusal) [
          | true ↦ Ok Applied
          | false ↦ elim (same_name c.head.previous (guid_of bytes)) as (λ x. Result Found Refusal) [ true ↦ Ok (Next c.head.guid) | false ↦ Err (ChainGuid ship c.head.previous (guid_of bytes)) ]
        ] ≡ Ok found → Finds files standby bytes found
    by_guid c level true is found e =
        subst (Finds files standby bytes) (ok_same Applied found (Ok Applied) refl e) (ready, record { contents = c; level = level; has = same_text c.head.guid (guid_of bytes) is })
    by_guid c level false is found e = by_previous c level is (same_name c.head.previous (guid_of bytes)) refl found e

    in_ship : (free foreign : Bool) (read : Result Contents ℕ) → is_free_name files ship ≡ free → is_foreign files ship ≡ foreign → read_in files ship ≡ read → (found : Found) → by_ship (guid_of bytes) ship free foreign read ≡ Ok found
        → Finds files standby bytes found
    in_ship true foreign read free own is found e = subst (Finds files standby bytes) (ok_same Nothing found (Ok Nothing) refl e) (ready, free)
    in_ship false true read free own is found e = absurd (err_not_ok (FileExists ship) found _ refl e)
    in_ship false false (Err at) free own is found e =
        subst (Finds files standby bytes) (ok_same Broken found (Ok Broken) refl e) (ready, record { at = at; read = is; used = free; own = own })
    in_ship false false (Ok c) free own is found e = by_guid c (record { read = is; alone = own_alone files ship own }) (same_name c.head.guid (guid_of bytes)) refl found e

  module _ (begun : IsIn files standby bytes applying_state) where
    by_other : (c : Contents) → read_in files ship ≡ Ok c → (t : Bool) → is_another bytes c ≡ t → (found : Found) → elim t as (λ x. Result Found Refusal) [ true ↦ Err Unfinished | false ↦ Ok (Pending c.head.guid) ] ≡ Ok found
        → Finds files standby bytes found
    by_other c read true is found e = absurd (err_not_ok Unfinished found _ refl e)
    by_other c read false is found e =
        let parts = or_parts (not (same_name (pending_of bytes) c.head.guid)) (not (same_name (guid_of bytes) c.head.previous)) is in
        subst (Finds files standby bytes) (ok_same (Pending c.head.guid) found (Ok (Pending c.head.guid)) refl e) (
          begun,
          record {
            contents = c;
            read = read;
            named = refl;
            goes_on = sym (same_text (guid_of bytes) c.head.previous (not_false _ parts.1));
            pending = same_text (pending_of bytes) c.head.guid (not_false _ parts.0);
          },
        )

    in_pending : (read : Result Contents ℕ) → read_in files ship ≡ read → (found : Found) → by_pending bytes read ≡ Ok found → Finds files standby bytes found
    in_pending (Err at) is found e = absurd (err_not_ok Unfinished found _ refl e)
    in_pending (Ok c) is found e = by_other c is (is_another bytes c) refl found e

  module _ (there : files standby ≡ Some bytes) (stands : not_standby standby (Some bytes) ≡ None) where
    found_there : (found : Found) → found_in files standby bytes ≡ Ok found → Finds files standby bytes found
    found_there found e = by (standby_state standby bytes stands).1
      where
        by_access : (state_of bytes ≡ normal_state) → (t : Bool) → is_read_only (image_in bytes) ≡ t → Finds files standby bytes found
        by_access normal false only = absurd (err_not_ok (Access 0) found _ (found_is files standby bytes false false (ap (λ (n : ℕ). n == 3) normal) only) e)
        by_access normal true only =
            in_ship (record { normal = record { there = there; formed = (standby_state standby bytes stands).0; is = normal }; read_only = only }) (is_free_name files ship) (is_foreign files ship) (read_in files ship) refl refl refl found
            (sym (found_is files standby bytes false true (ap (λ (n : ℕ). n == 3) normal) only) ∙ e)

        by : (state_of bytes ≡ normal_state) ⊎ (state_of bytes ≡ applying_state) → Finds files standby bytes found
        by (inl normal) = by_access normal (is_read_only (image_in bytes)) refl
        by (inr begun) =
            in_pending (record { there = there; formed = (standby_state standby bytes stands).0; is = begun }) (read_in files ship) refl found
            (sym (found_is files standby bytes true (is_read_only (image_in bytes)) (ap (λ (n : ℕ). n == 3) begun) refl) ∙ e)

-- where there is one
with_found : (guid : List ℕ) (r : Result Found Refusal) (look : Look) → with_guid guid r ≡ Ok look → (r ≡ Ok look.found) × (look.guid ≡ guid)
with_found guid (Err refusal) look e = absurd (err_not_ok refusal look _ refl e)
with_found guid (Ok found) look e =
    let same : record { guid = guid; found = found } ≡ look = ok_same _ look (Ok (record { guid = guid; found = found })) refl e in
    (ap (λ (l : Look). Ok l.found) same, ap (λ (l : Look). l.guid) (sym same))

refused_look : (files : Files) (standby : List ℕ) (r : Refusal) → not_standby standby (files standby) ≡ Some r → look_at files standby ≡ Err r
unfolding look_at
refused_look files standby r e = rw (e, look_at) refl

pub what_is_found : (files : Files) (standby : List ℕ) (look : Look) → look_at files standby ≡ Ok look → (bytes : List ℕ) × (look.guid ≡ guid_of bytes) × Finds files standby bytes look.found
what_is_found files standby look e = by (not_standby standby (files standby)) refl
  where
    by : (cause : Cause) → not_standby standby (files standby) ≡ cause → (bytes : List ℕ) × (look.guid ≡ guid_of bytes) × Finds files standby bytes look.found
    by (Some r) is = absurd (err_not_ok r look (look_at files standby) (refused_look files standby r is) e)
    by None is =
        let there = standby_there files standby is in
        let stands = ap (not_standby standby) (sym there.1) ∙ is in
        let found = with_found (guid_of there.0) (found_in files standby there.0) look (sym (look_is files standby there.0 there.1 stands) ∙ e) in
        (there.0, found.1, found_there files standby there.0 there.1 stands look.found found.0)

-- ---- and what stands there is found

no_tests : (bytes : List ℕ) (name : List ℕ) → not_database bytes ≡ None → (state_of bytes ≡ normal_state) ⊎ (state_of bytes ≡ applying_state) → not_standby name (Some bytes) ≡ None
unfolding not_standby first_cause
no_tests bytes name formed (inl normal) = rw (formed, not_standby) (rw (normal, not_standby) refl)
no_tests bytes name formed (inr begun) = rw (formed, not_standby) (rw (begun, not_standby) refl)

module _ (files : Files) (standby bytes : List ℕ) where
  ready_found : IsReady files standby bytes → (found : Found) → by_ship (guid_of bytes) (ship_of standby) (is_free_name files (ship_of standby)) (is_foreign files (ship_of standby)) (read_in files (ship_of standby)) ≡ Ok found
      → look_at files standby ≡ Ok (record { guid = guid_of bytes; found = found })
  ready_found ready found e =
      look_finds files standby bytes ready.normal.there (no_tests bytes standby ready.normal.formed (inl ready.normal.is)) found
      (found_is files standby bytes false true (ap (λ (n : ℕ). n == 3) ready.normal.is) ready.read_only ∙ e)

  module _ (free foreign : Bool) (read : Result Contents ℕ) (is_free : is_free_name files (ship_of standby) ≡ free) (is_own : is_foreign files (ship_of standby) ≡ foreign) (is : read_in files (ship_of standby) ≡ read) where
    ship_is : by_ship (guid_of bytes) (ship_of standby) (is_free_name files (ship_of standby)) (is_foreign files (ship_of standby)) (read_in files (ship_of standby)) ≡ by_ship (guid_of bytes) (ship_of standby) free foreign read
    ship_is =
        ap (λ (t : Bool). by_ship (guid_of bytes) (ship_of standby) t (is_foreign files (ship_of standby)) (read_in files (ship_of standby))) is_free
        ∙ ap (λ (t : Bool). by_ship (guid_of bytes) (ship_of standby) free t (read_in files (ship_of standby))) is_own
        ∙ ap (by_ship (guid_of bytes) (ship_of standby) free foreign) is

  level_found : (c : Contents) → HoldsLevel files (ship_of standby) c
      → by_ship (guid_of bytes) (ship_of standby) (is_free_name files (ship_of standby)) (is_foreign files (ship_of standby)) (read_in files (ship_of standby)) ≡ by_head (guid_of bytes) (ship_of standby) c.head
  level_found c level = ship_is false false (Ok c) (level_used files (ship_of standby) c level.read) (level_own files (ship_of standby) c level.read level.alone) level.read

  -- by the two GUIDs of a head
  abbrev by_old : Contents → (old follows : Bool) → Result Found Refusal
  by_old c old follows = elim old as (λ x. Result Found Refusal) [
    | true ↦ Ok Applied
    | false ↦ elim follows as (λ x. Result Found Refusal) [ true ↦ Ok (Next c.head.guid) | false ↦ Err (ChainGuid (ship_of standby) c.head.previous (guid_of bytes)) ]
  ]

  head_applied : (c : Contents) → c.head.guid ≡ guid_of bytes → by_head (guid_of bytes) (ship_of standby) c.head ≡ Ok Applied
  head_applied c has = ap (λ (t : Bool). by_old c t (same_name c.head.previous (guid_of bytes))) (same_texts c.head.guid (guid_of bytes) has)

  head_next : (c : Contents) → c.head.guid ≢ guid_of bytes → c.head.previous ≡ guid_of bytes → by_head (guid_of bytes) (ship_of standby) c.head ≡ Ok (Next c.head.guid)
  head_next c new goes_on =
      ap (λ (t : Bool). by_old c t (same_name c.head.previous (guid_of bytes))) (same_other c.head.guid (guid_of bytes) new)
      ∙ ap (by_old c false) (same_texts c.head.previous (guid_of bytes) goes_on)

  pending_found : (c : Contents) → pending_of bytes ≡ c.head.guid → c.head.previous ≡ guid_of bytes → by_pending bytes (Ok c) ≡ Ok (Pending c.head.guid)
  pending_found c pending goes_on = ap (λ (t : Bool). elim t as (λ x. Result Found Refusal) [ true ↦ Err Unfinished | false ↦ Ok (Pending c.head.guid) ])
      (or_from _ _ (ap not (same_texts (pending_of bytes) c.head.guid pending)) (ap not (same_texts (guid_of bytes) c.head.previous (sym goes_on))))

  pub what_stands_is_found : (found : Found) → Finds files standby bytes found → look_at files standby ≡ Ok (record { guid = guid_of bytes; found = found })
  what_stands_is_found Nothing (ready, free) = ready_found ready Nothing (ship_is true (is_foreign files (ship_of standby)) (read_in files (ship_of standby)) free refl refl)
  what_stands_is_found Broken (ready, none) = ready_found ready Broken (ship_is false false (Err none.at) none.used none.own none.read)
  what_stands_is_found Applied (ready, h) = ready_found ready Applied (level_found h.contents h.level ∙ head_applied h.contents h.has)
  what_stands_is_found (Next guid) (ready, h) =
      ready_found ready (Next guid) (level_found h.contents h.level ∙ head_next h.contents (λ e. h.new (sym h.named ∙ e)) h.goes_on ∙ ap (λ (g : List ℕ). Ok (Next g)) h.named)
  what_stands_is_found (Pending guid) (begun, h) =
      look_finds files standby bytes begun.there (no_tests bytes standby begun.formed (inr begun.is)) (Pending guid)
      (found_is files standby bytes true (is_read_only (image_in bytes)) (ap (λ (n : ℕ). n == 3) begun.is) refl ∙ ap (by_pending bytes) h.read
      ∙ pending_found h.contents (h.pending ∙ sym h.named) h.goes_on ∙ ap (λ (g : List ℕ). Ok (Pending g)) h.named)
