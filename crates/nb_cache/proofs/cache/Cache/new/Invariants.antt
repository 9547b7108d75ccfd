use Rattle.std.proofs.Common.{◌≡◌, ◌<◌, length}
use Rattle.nb_cache.proofs.Common.{AllByRecursion}
use Rattle.nb_cache.proofs.cache.Cache.new.Given as goal

abbrev pub invariant-loop-key : goal.invariant-loop-key
invariant-loop-key l = record {
  cap : l.frames.cap ≡ l.pages;
  so_many : length l.frames.entries ≡ l.key;
  keys : AllByRecursion (λ e. e.0 < l.key) l.frames.entries;
  sizes : AllByRecursion (λ e. length e.1.bytes.items ≡ l.page_size) l.frames.entries;
}
