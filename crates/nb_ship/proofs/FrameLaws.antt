-- A look goes by three files.
use Rattle.std.proofs.Common.{◌≡◌, ℕ, List, ◌++◌, length, ap, ◌∙◌, Bool, ◌&&◌, ◌||◌, ◌==◌, not, nat_le, is_some, Some, None, Result, Err}
use Rattle.nb_ship.proofs.Common.{state_of, guid_of, is_header, applying_state, File, Files, bytes_of, Refusal, image_in, is_read_only, is_free_file, not_standby, Contents, read_level, by_pending, by_ship, by_standby, with_guid, found_in, is_foreign, look_at, read_in, ship_of, Found, Look}
use Rattle.nb_host.specs.Names.{delta_suffix}
use Rattle.nb_page.specs.Free.{has_delta, is_free_name}

module _ (files others : Files) (name : List ℕ) (same : others name ≡ files name) (beside : others (name ++ delta_suffix) ≡ files (name ++ delta_suffix)) where
  delta_same : has_delta others name ≡ has_delta files name
  unfolding has_delta
  delta_same = ap (λ (d : File). nat_le (length name) 94 && is_some d) beside

  free_same : is_free_name others name ≡ is_free_name files name
  unfolding is_free_name
  free_same = ap (λ (f : File). is_free_file f && not (has_delta others name)) same ∙ ap (λ (t : Bool). is_free_file (files name) && not t) delta_same

  foreign_same : is_foreign others name ≡ is_foreign files name
  unfolding is_foreign
  foreign_same = ap (λ (f : File). is_header (bytes_of f) || has_delta others name) same ∙ ap (λ (t : Bool). is_header (bytes_of (files name)) || t) delta_same

  read_same : read_in others name ≡ read_in files name
  read_same = ap (λ (f : File). read_level (bytes_of f)) same

module _ (files others : Files) (standby : List ℕ) (same : others (ship_of standby) ≡ files (ship_of standby)) (beside : others (ship_of standby ++ delta_suffix) ≡ files (ship_of standby ++ delta_suffix)) where
  abbrev ship : List ℕ
  ship = ship_of standby

  found_same : (bytes : List ℕ) → found_in others standby bytes ≡ found_in files standby bytes
  unfolding found_in
  found_same bytes =
      ap (λ (read : Result Contents ℕ). by_test read (is_free_name others ship) (is_foreign others ship)) (read_same files others ship same beside)
      ∙ ap (λ (t : Bool). by_test (read_in files ship) t (is_foreign others ship)) (free_same files others ship same beside)
      ∙ ap (λ (t : Bool). by_test (read_in files ship) (is_free_name files ship) t) (foreign_same files others ship same beside)
    where
      by_test : Result Contents ℕ → (free foreign : Bool) → Result Found Refusal
      by_test read free foreign = by_standby (state_of bytes == applying_state) (is_read_only (image_in bytes)) (by_pending bytes read) (by_ship (guid_of bytes) ship free foreign read)

  pub look_same : others standby ≡ files standby → look_at others standby ≡ look_at files standby
  unfolding look_at
  look_same here = ap (λ (f : File). by_file f (found_in others standby (bytes_of f))) here ∙ ap (by_file (files standby)) (found_same (bytes_of (files standby)))
    where
      by_file : File → Result Found Refusal → Result Look Refusal
      by_file file found = elim (not_standby standby file) as (λ x. Result Look Refusal) [ Some refusal ↦ Err refusal | None ↦ with_guid (guid_of (bytes_of file)) found ]
