use Rattle.std.proofs.Common.{◌≡◌, ℕ, ◌+◌, ◌-◌, ◌*◌, ◌/◌, ◌<◌, ◌≤◌, length, IsTrue, true, min}
use Rattle.nb_alloc.proofs.Common.{Trail, image_size, is_kind, IsOpen, AreTaken, IsMap, bits_in, inventory_place, most_pages, inventory_kind, Looks}
use Rattle.nb_alloc.proofs.FindLaws.{maps_before}
use Rattle.nb_alloc.proofs.find.next_free.Given as goal

abbrev pub invariant-loop-page : goal.invariant-loop-page
invariant-loop-page g l = record {
  behind : l.fn.from ≤ l.page;
  taken : (t : Trail) → IsTrue g.H.Host.tells → IsOpen (g.H.Host.world l.fn.host) l.fn.store t → AreTaken t.base.image l.fn.from l.page;
  looked : (t : Trail) → IsTrue g.H.Host.tells → IsOpen (g.H.Host.world l.fn.host) l.fn.store t → l.fn.from < l.page → IsMap t.base.image (min l.page (length t.base.image) - 1) l.map;
  maps : (t : Trail) → IsTrue g.H.Host.tells → IsOpen (g.H.Host.world l.fn.host) l.fn.store t → (k : ℕ) → l.fn.from / bits_in (image_size t.base.image) ≤ k → k < l.page / bits_in (image_size t.base.image) → is_kind t.base.image inventory_kind (inventory_place (image_size t.base.image) k) ≡ true;
  whole : l.fn.from < l.page → l.page / bits_in l.fn.store.files.page_size * bits_in l.fn.store.files.page_size ≡ l.page;
  room : length l.map ≡ length l.fn.map;
  looks : Looks g.H.Host.tells (g.H.Host.world l.fn.host) (g.H.Host.world l.host) l.fn.store l.store;
  once : IsTrue g.H.Host.tells → (g.H.Host.world l.host).reads ≤ (g.H.Host.world l.fn.host).reads + maps_before (bits_in l.fn.store.files.page_size) l.fn.from l.page l.fn.store.files.count;
  cause : g.H.Host.faults l.host ≡ g.H.Host.faults l.fn.host;
}

abbrev pub decreases-loop-page : goal.decreases-loop-page
decreases-loop-page g l = most_pages - l.page
