-- GUIDs that count on from those that were given are new.
use Rattle.std.proofs.Common.{◌≡◌, ℕ, zero, suc, ◌+◌, ◌^◌, ◌<◌, ◌≤◌, List, length, refl, sym, ap, subst, ◌∙◌, arith, Some, Contains}
use Rattle.nb_top.proofs.Common.{Files, World, guid_of, guids_behind, Kept, AreNew, ComeOnce, NameNone, StartsFrom}
use Rattle.nb_mem.proofs.GuidLaws.{behind_apart, guid_not_nil, guids_apart}

sixteen : (n : ℕ) → length (guid_of n) ≡ 16
unfolding guid_of
sixteen n = refl

-- one of so many after a number has one of their numbers
record IsCounted (number count : ℕ) (guid : List ℕ) : Type 0 where
  own : ℕ
  low : number < own
  high : own ≤ number + count
  is : guid ≡ guid_of own

counted : (number count : ℕ) (guid : List ℕ) → Contains (guids_behind number count) guid → IsCounted number count guid
counted number zero guid (k, below, is) = absurd (omega (arith, below))
counted number (suc count) guid (zero, below, is) = record { own = number + 1; low = omega arith; high = omega arith; is = sym is }
counted number (suc count) guid (suc k, below, is) =
    let rest = counted (number + 1) count guid (k, omega (arith, below), is) in
    record { own = rest.own; low = omega (arith, rest.low); high = omega (arith, rest.high); is = rest.is }

-- none of them comes twice
counted_once : (number count : ℕ) → number + count < 2 ^ 64 → ComeOnce (guids_behind number count)
counted_once number zero small = tt
counted_once number (suc count) small = (
  λ there.
      let later = counted (number + 1) count (guid_of (number + 1)) there in
      absurd (omega (arith, later.low, guids_apart (number + 1) later.own (omega (arith, small)) (omega (arith, small, later.high)) later.is)),
  counted_once (number + 1) count (omega (arith, small)),
)

pub counted_new : (w : World) (files : Files) (kept : List Kept) (count more : ℕ) → count + more < 2 ^ 64 → StartsFrom w files → ((r : Kept) → Contains kept r → Contains (guids_behind 0 count) r.guid) → NameNone files (guids_behind count more)
    → AreNew w kept (guids_behind count more)
counted_new w files kept count more small starts given none = record {
  each = λ guid there.
      let one = counted count more guid there in
      record {
        sixteen = ap length one.is ∙ sixteen one.own;
        some = λ is. guid_not_nil one.own (omega (arith, one.low)) (omega (arith, one.high, small)) (sym one.is ∙ is);
        unkept = λ r kept_there same. behind_apart count more guid small (subst (Contains (guids_behind 0 count)) same (given r kept_there)) there;
        unnamed = λ name bytes plain left. none guid name bytes there plain (sym (starts.only name (Some bytes) left));
      };
  once = counted_once count more small;
}
