-- The record of a backup with another ask: what it holds besides is the same.
use Rattle.std.proofs.Common.{◌≡◌, length, sym, ap, ◌∙◌, arith, Option}
use Rattle.nb_restore.proofs.Common.{length-part, first_page, Ask, Kept, IsBegun, header-long}

-- the record with that ask
abbrev pub with_ask : Option Ask → Kept → Kept
with_ask ask r = record { guid = r.guid; scn = r.scn; ask = ask; image = r.image }

pub begun_with : (ask : Option Ask) (r : Kept) → IsBegun r → IsBegun (with_ask ask r)
begun_with ask r begun = record { header = begun.header; state = begun.state; guid = begun.guid; scn = begun.scn; old = begun.old }

-- its GUID has sixteen bytes
pub guid_long : (r : Kept) → IsBegun r → length r.guid ≡ 16
guid_long r begun = ap length (sym begun.guid) ∙ length-part 32 16 (first_page r.image) (omega (arith, header-long (first_page r.image) begun.header))
