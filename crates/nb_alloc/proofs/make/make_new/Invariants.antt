use Rattle.std.proofs.Common.{◌≡◌, ◌<◌, ◌≤◌, ◌+◌, ◌-◌, ◌*◌, length, IsTrue, None}
use Rattle.nb_alloc.proofs.Common.{code_of, most_pages, Trail, lowest_free, draft_cause, IsOpen, Goes, HoldsMap, content, new_of, IsSearchable}
use Rattle.nb_alloc.proofs.NewLaws.{SoFar}
use Rattle.nb_alloc.proofs.make.make_new.Given as goal

abbrev pub invariant-loop-store : goal.invariant-loop-store
invariant-loop-store g l = record {
  so_far : (t : Trail) → IsTrue g.H.Host.tells → IsOpen (g.H.Host.world l.fn.host) l.fn.store t → l.fn.first ≡ lowest_free t.base.image → HoldsMap t.base.image l.fn.first l.fn.map
      → IsSearchable t.base.image → draft_cause (new_of (code_of l.fn.kind) (content l.fn.own l.fn.payload) t.base.image).0 ≡ None
      → SoFar (code_of l.fn.kind) (content l.fn.own l.fn.payload) (g.H.Host.world l.fn.host) (g.H.Host.world l.host) l.fn.store l.store t l.place (new_of (code_of l.fn.kind) (content l.fn.own l.fn.payload) t.base.image).0.strokes (new_of (code_of l.fn.kind) (content l.fn.own l.fn.payload) t.base.image).1 l.map;
  goes : Goes l.fn.store l.store;
  low : 5 ≤ l.place;
  behind : l.fn.first ≤ l.place;
  most : l.place < most_pages;
  within : l.place ≤ l.store.files.count;
  map_room : length l.map ≡ length l.fn.map;
  scn_room : length l.scn_page ≡ length l.fn.scn_page;
  once : IsTrue g.H.Host.tells → (g.H.Host.world l.host).reads ≤ (g.H.Host.world l.fn.host).reads + 6 * (l.place - l.fn.first);
  cause : g.H.Host.faults l.host ≡ g.H.Host.faults l.fn.host;
}

abbrev pub decreases-loop-store : goal.decreases-loop-store
decreases-loop-store g l = most_pages - l.place
