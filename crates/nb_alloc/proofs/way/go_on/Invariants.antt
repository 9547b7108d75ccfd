use Rattle.std.proofs.Common.{◌≡◌, ◌≢◌, ◌+◌, ◌-◌, ◌*◌, ◌<◌, ◌≤◌, ℕ, length, IsTrue, true, false}
use Rattle.nb_alloc.proofs.Common.{is_system_place, most_pages, Image, Trail, IsOpen, Behind, HoldsMap, AtKnown, Looks}
use Rattle.nb_alloc.proofs.way.go_on.Given as goal

abbrev pub invariant-loop-behind : goal.invariant-loop-behind
invariant-loop-behind g l = record {
  at : (t : Trail) (start : Image) (begun : ℕ) (before : Behind) → IsTrue g.H.Host.tells → IsOpen (g.H.Host.world l.fn.host) l.fn.store t → AtKnown t.base.image start begun l.fn.first l.fn.way.made l.fn.way.fresh before l.fn.behind
      → AtKnown t.base.image start begun l.place l.way.made l.way.fresh before l.behind;
  held : (t : Trail) → IsTrue g.H.Host.tells → IsOpen (g.H.Host.world l.fn.host) l.fn.store t → HoldsMap t.base.image l.fn.first l.fn.map → HoldsMap t.base.image l.fn.first l.map;
  passed : l.fn.first ≢ l.place → is_system_place l.fn.store.files.page_size l.fn.first ≡ true;
  from : l.way.from ≡ l.place + 1;
  least : 5 ≤ l.place;
  below : l.place < most_pages;
  page : l.behind.page ≡ l.fn.behind.page;
  lost : l.fn.behind.lost ≡ true → l.behind.lost ≡ true;
  map_room : length l.map ≡ length l.fn.map;
  scn_room : length l.scn_page ≡ length l.fn.scn_page;
  looks : Looks g.H.Host.tells (g.H.Host.world l.fn.host) (g.H.Host.world l.host) l.fn.store l.store;
  once : IsTrue g.H.Host.tells → (g.H.Host.world l.host).reads ≤ (g.H.Host.world l.fn.host).reads + 5 * (l.place - l.fn.first);
  fewer : IsTrue g.H.Host.tells → l.fn.first ≢ l.place → is_system_place l.fn.store.files.page_size l.place ≡ false → (g.H.Host.world l.host).reads + 1 ≤ (g.H.Host.world l.fn.host).reads + 5 * (l.place - l.fn.first);
  none : l.fn.first ≡ l.place → (g.H.Host.world l.host).reads ≡ (g.H.Host.world l.fn.host).reads;
  behind : l.fn.first ≤ l.place;
  cause : g.H.Host.faults l.host ≡ g.H.Host.faults l.fn.host;
}

abbrev pub decreases-loop-behind : goal.decreases-loop-behind
decreases-loop-behind g l = most_pages - l.place
