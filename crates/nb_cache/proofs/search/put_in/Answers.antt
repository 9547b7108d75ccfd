use Rattle.std.proofs.Common.{ℕ, List, Option, ap, ap₂, nat_eq}
use Rattle.nb_cache.proofs.Common.{set_value, lru_cache, Slot}
use Rattle.nb_cache.proofs.search.put_in.Goals as goal

pub returns : goal.returns
returns c =
    let filled = c.fill.ensures in (
      c.fill.new.self,
      ap₂ (λ (page : ℕ) (slot : Slot). (page, slot)) filled.page (ap₂ (λ (bytes : List ℕ) (rank : Option ℕ). record { bytes = bytes; rank = rank }) filled.bytes filled.rank),
      ap (λ l. lru_cache (set_value (nat_eq c.args.key) l.entries c.fill.new.self) l.cap) c.promote.ensures.entries,
    )
