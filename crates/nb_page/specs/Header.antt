-- The header that bytes hold.
use Rattle.std.specs.Prelude.{◌≡◌, ℕ, ◌<◌, ◌≤◌, IsTrue, List}
use Rattle.nb_fields.specs.Places.{is_page_size}
use Rattle.nb_fields.specs.Header.{state_of, size_of, scn_of, guid_of, pending_of}
use Rattle.nb_fields.specs.Payloads.{control_block}
use Rattle.nb_fields.specs.States.{stalled_state}
use Rattle.nb_page.specs.declared.header.Header.{Header}

-- the header in the first 64 bytes
unfoldable pub header_in : List ℕ → Header
header_in first = record { page_size = size_of first; state = state_of first; scn = scn_of first; guid = guid_of first; pending = pending_of first }

-- the control block that holds it: bytes 16 to 63
abbrev pub block_of : Header → List ℕ
block_of header = control_block header.page_size header.state header.scn header.guid header.pending

-- what the form of a header asks of its fields
pub record HasForm (header : Header) : Type 0 where
  pub size : IsTrue (is_page_size header.page_size)
  pub state : header.state ≤ 3
  pub scn : 1 ≤ header.scn
  pub room : header.state ≡ stalled_state → header.scn < 4294967295
