-- A look, by what was read of the standby.
use Rattle.std.proofs.Common.{◌≡◌, ℕ, List, refl, sym, ap, subst, ◌∙◌, Bool, true, false, ◌==◌, Some, None, Result, Ok, Err}
use Rattle.nb_ship.proofs.Common.{state_of, guid_of, applying_state, Cause, File, Files, bytes_of, Refusal, Access, Fault, Refused, Device, Memory, image_in, is_read_only, not_standby, TestedByReads, header_in, Header, IsStandby, Standby, is_free_name, is_foreign, Says, by_pending, by_ship, by_standby, read_in, with_guid, found_in, look_at, ship_of, Found, Look}

module _ (files : Files) (standby bytes : List ℕ) where
  abbrev ship : List ℕ
  ship = ship_of standby

  abbrev pending : Result Found Refusal
  pending = by_pending bytes (read_in files ship)

  abbrev next : Result Found Refusal
  next = by_ship (guid_of bytes) ship (is_free_name files ship) (is_foreign files ship) (read_in files ship)

  pub found_is : (begun read_only : Bool) → (state_of bytes == applying_state) ≡ begun → is_read_only (image_in bytes) ≡ read_only → found_in files standby bytes ≡ by_standby begun read_only pending next
  unfolding found_in
  found_is begun read_only is only = ap (λ (t : Bool). by_standby t (is_read_only (image_in bytes)) pending next) is ∙ ap (λ (t : Bool). by_standby begun t pending next) only

  -- where a merge was stopped,
  pub found_pending : (result : Result Found Fault) → (state_of bytes == applying_state) ≡ true → Says pending result → Says (found_in files standby bytes) result
  found_pending result is says = subst (λ (r : Result Found Refusal). Says r result) (sym (found_is true (is_read_only (image_in bytes)) is refl)) says

  -- where the standby may be written,
  pub found_writable : (state_of bytes == applying_state) ≡ false → is_read_only (image_in bytes) ≡ false → found_in files standby bytes ≡ Err (Access 0)
  found_writable is only = found_is false false is only

  -- and otherwise
  pub found_next : (result : Result Found Fault) → (state_of bytes == applying_state) ≡ false → is_read_only (image_in bytes) ≡ true → Says next result → Says (found_in files standby bytes) result
  found_next result is only says = subst (λ (r : Result Found Refusal). Says r result) (sym (found_is false true is only)) says

  module _ (there : files standby ≡ Some bytes) (stands : not_standby standby (Some bytes) ≡ None) where
    pub look_is : look_at files standby ≡ with_guid (guid_of bytes) (found_in files standby bytes)
    unfolding look_at
    look_is = ap (λ (f : File). by_cause (not_standby standby f) f) there ∙ ap (λ (cause : Cause). by_cause cause (Some bytes)) stands
      where
        by_cause : Cause → File → Result Look Refusal
        by_cause cause file = elim cause as (λ x. Result Look Refusal) [
          | Some refusal ↦ Err refusal
          | None ↦ with_guid (guid_of (bytes_of file)) (found_in files standby (bytes_of file))
        ]

    pub look_fails : (fault : Fault) → Says {T = Found} (found_in files standby bytes) (Err fault) → Says {T = Look} (look_at files standby) (Err fault)
    look_fails (Refused r) says = look_is ∙ ap (with_guid (guid_of bytes)) says
    look_fails Device says = tt
    look_fails Memory says = tt

    pub look_finds : (found : Found) → found_in files standby bytes ≡ Ok found → look_at files standby ≡ Ok (record { guid = guid_of bytes; found = found })
    look_finds found says = look_is ∙ ap (with_guid (guid_of bytes)) says

pub standby_fails : (files : Files) (standby : List ℕ) (fault : Fault) → TestedByReads {T = Standby} (Err fault) (not_standby standby (files standby)) → Says {T = Look} (look_at files standby) (Err fault)
unfolding look_at
standby_fails files standby (Refused r) says = rw (says, look_at) refl
standby_fails files standby Device says = tt
standby_fails files standby Memory says = absurd says

pub header_guid : (bytes : List ℕ) (s : Standby) → IsStandby bytes s → s.header.guid ≡ guid_of bytes
unfolding header_in
header_guid bytes s is = ap (λ (h : Header). h.guid) is.header
