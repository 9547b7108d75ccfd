-- What the records of backups go on from, in one step or in many.
use Rattle.std.proofs.Common.{◌≡◌, ◌≢◌, ◌<◌, List, [], ◌∷◌, sym, subst, ◌∙◌, arith, Some, Contains}
use Rattle.nb_restore.proofs.Common.{Files, Ask, Kept, Account, nil, IsKeptAs, IsParent, IsLineTo, IsSpan, GoesOnFrom, Stands}
use Rattle.nb_model.specs.Follows.{Follows}
use Rattle.nb_model.proofs.FollowsLaws.{follows_on}

-- the backup q came after r, and its image follows that of r
pub record LeadsTo (r q : Kept) : Type 0 where
  pub earlier : r.scn < q.scn
  pub follows : Follows r.image r.scn q.image

pub leads_on : (a b c : Kept) → LeadsTo a b → LeadsTo b c → LeadsTo a c
leads_on a b c f g = record { earlier = omega (arith, f.earlier, g.earlier); follows = follows_on f.follows g.follows (omega (arith, f.earlier)) }

-- what is asked for goes on from a kept record, to q
pub record AsksFrom (kept : List Kept) (q : Kept) (ask : Ask) : Type 0 where
  pub from : Kept
  pub kept_as : IsKeptAs kept ask.previous from
  pub scn : ask.previous_scn ≡ from.scn
  pub leads : LeadsTo from q

module _ (files : Files) (account : Account) (stands : Stands files account) where
  parent_leads : (p q : Kept) → Contains account.kept q → IsParent account.kept p q → LeadsTo p q
  parent_leads p q there parent =
      let some : parent.ask.previous ≢ nil = λ none. stands.kept_records.not_nil p parent.parent.there (parent.parent.named ∙ none) in
      let on : GoesOnFrom account.kept q parent.ask = stands.history.records q parent.ask there parent.is some in
      let same : on.parent ≡ p = stands.kept_records.distinct on.parent p on.kept_as.there parent.parent.there (on.kept_as.named ∙ sym parent.parent.named) in
      subst (λ (x : Kept). LeadsTo x q) same (record { earlier = on.earlier; follows = on.follows })

  line_leads : (between : List Kept) (p q : Kept) → Contains account.kept q → IsLineTo account.kept p q between → Contains account.kept p × LeadsTo p q
  line_leads [] p q there line = (line.parent.there, parent_leads p q there line)
  line_leads (m ∷ ms) p q there line =
      let rest = line_leads ms p m line.0.parent.there line.1 in
      (rest.0, leads_on p m q rest.1 (parent_leads m q there line.0))

  -- so do its own ask, and that of a span
  pub own_asks : (q : Kept) (ask : Ask) → Contains account.kept q → q.ask ≡ Some ask → ask.previous ≢ nil → AsksFrom account.kept q ask
  own_asks q ask there is some =
      let on : GoesOnFrom account.kept q ask = stands.history.records q ask there is some in
      record { from = on.parent; kept_as = on.kept_as; scn = sym on.scn; leads = record { earlier = on.earlier; follows = on.follows } }

  pub span_asks : (q : Kept) (ask : Ask) → Contains account.kept q → IsSpan account.kept q ask → AsksFrom account.kept q ask
  span_asks q ask there span =
      let line = line_leads span.ancestor.between span.from q there span.ancestor.line in
      record { from = span.from; kept_as = record { there = line.0; named = sym span.guid }; scn = span.scn; leads = line.1 }
