use Rattle.std.proofs.Common.{inl, inr, arith}
use Rattle.nb_cache.proofs.NextLaws.{next-first, next-sooner}
use Rattle.nb_cache.proofs.next.sooner.Goals as goal

pub returns-in_default-next : goal.returns-in_default-next
returns-in_default-next c pages bytes next = rw c.in-Some.is (next-first pages c.args.page bytes c.in-Some.own (rw c.in_default-next.is at next))

pub returns-then-own-lowest : goal.returns-then-own-lowest
returns-then-own-lowest c pages bytes next =
    rw c.in-Some.is (next-sooner pages c.args.page bytes c.in-Some.own c.in-Some-next.first c.in-Some-next.lowest (rw c.in-Some-next.is at next) (inl c.if-own-lowest.true))

pub returns-then-page-first : goal.returns-then-page-first
returns-then-page-first c pages bytes next =
    rw c.in-Some.is (next-sooner pages c.args.page bytes c.in-Some.own c.in-Some-next.first c.in-Some-next.lowest (rw c.in-Some-next.is at next) (inr (omega arith, omega arith)))
