-- A ship leaves other files alone, part by part, and says what it refuses.
use Rattle.std.proofs.Common.{◌≡◌, inl, inr, ⊎_elim, ℕ, zero, suc, replicate, List, [], ◌∷◌, ◌++◌, refl, sym, ap, subst, ◌∙◌, append_assoc, Bool, true, false, IsTrue, Option, None, Some, Result, Ok, Err, IfOk}
use Rattle.nb_top.proofs.Common.{true≢false, File, Files, World, Leaves, LeavesAll, AtEachMoment, IsTimely, Fault, Refused, Device, Memory, Refusal, RunError, Names, Only, Other, joined, left_before, weaker, append-nil, Reply, BackupSince, line_text, is_database, AnySessionAsks, IsAdded, LeavesOthers, OthersLeft, SaysLine, leaves_among, leaves_changes, leaves_line, leaves_quiet, Status, Done, EndsSo, asks_of, plan_of, Runs, ToRun, Sparingly, MayTouch, OfShip, SaysRefusal, TouchesOnly, ends_refused}
use Rattle.nb_host.specs.declared.faults.RunError.TheVariants.{Device as DeviceError, Memory as MemoryError}
use Rattle.nb_model.specs.declared.reply.Reply.TheVariants.{Refused as RefusedReply}
use Rattle.nb_ended.specs.declared.status.Status.TheVariants.{Refused as RefusedStatus, Usage as UsageStatus, Device as DeviceStatus, Memory as MemoryStatus}
use Rattle.nb_session.proofs.OthersLaws.{added_then}
use Rattle.nb_ship.specs.Names.{ship_of}
use Rattle.nb_ship.specs.Steps.{steps_from}
use Rattle.nb_ship.specs.declared.steps.Step.{Step}
use Rattle.nb_ship.specs.declared.steps.Step.TheVariants.{Copy, Apply, Discard}
use Rattle.nb_top.specs.declared.ship_plan.ShipPlan.{ShipPlan}
use Rattle.nb_top.specs.Shipped.{AfterCopy, AfterMerge, AfterPlan, Copies, Discards, Merges, Refuses, Replies, ShipsByPlan, Stops, TakesSteps, copying, status_of_end}
use Rattle.nb_top.specs.Done.{GoesOn}
use Rattle.nb_top.proofs.GoesLaws.{ended_so}
use Rattle.nb_top.proofs.LongNames.{ship_file}
use Rattle.nb_top.proofs.RequestLaws.{attach_askable}
use Rattle.nb_top.proofs.OthersStay.{done_touches}
use Rattle.nb_top.proofs.KnownLaws.{told_opened}

-- Of all files but these a crash leaves what it would have left before, at each moment, and they read as they did.
record StaysOut (old new : World) (names : Names) : Type 0 where
  moments : AtEachMoment old new (OthersLeft old names)
  left : (m : List ℕ) (file : File) → Other names m → Leaves new m file → Leaves old m file
  reads : (m : List ℕ) → Other names m → new.files m ≡ old.files m
  added : IsAdded old new.said

stays_then : (old mid new : World) (names : Names) → StaysOut old mid names → StaysOut mid new names → StaysOut old new names
stays_then old mid new names first second = record {
  moments = joined old mid new _ _ _ first.moments second.moments (λ files said left. left)
      (λ files said left. record { added = added_then old mid said first.added left.added; others = λ m other. first.left m (files m) other (left.others m other) });
  left = λ m file other leaves. first.left m file other (second.left m file other leaves);
  reads = λ m other. second.reads m other ∙ first.reads m other;
  added = added_then old mid new.said first.added second.added;
}

stays_leaves : (old new : World) (names : Names) → LeavesOthers old new names → StaysOut old new names
stays_leaves old new names leaves = record { moments = leaves.moments; left = λ m file other left. left_before old new _ leaves.others m file other left; reads = leaves.others_read; added = leaves.added }

-- a later refusal is said after what was said before
refused_later : (old mid new : World) → IsAdded old mid.said → SaysRefusal mid new → SaysRefusal old new
refused_later old mid new added says = record {
  session = says.session;
  refusal = says.refusal;
  before = added.part ++ says.before;
  behind = says.behind;
  is = says.is ∙ ap (λ (l : List ℕ). l ++ (says.before ++ line)) added.is ∙ append_assoc old.said added.part (says.before ++ line) ∙ ap (λ (l : List ℕ). old.said ++ l) (sym (append_assoc added.part says.before line));
}
  where
    line : List ℕ
    line = line_text says.session (RefusedReply says.refusal) ++ says.behind

-- So it was up to its end, and where that is a refusal it was said.
record OutToEnd (result : Result Status RunError) (old new : World) (names : Names) : Type 0 where
  out : StaysOut old new names
  says : ends_refused (status_of_end result) ≡ true → SaysRefusal old new

out_then : (result : Result Status RunError) (old mid new : World) (names : Names) → StaysOut old mid names → OutToEnd result mid new names → OutToEnd result old new names
out_then result old mid new names first second = record { out = stays_then old mid new names first second.out; says = λ ends. refused_later old mid new first.added (second.says ends) }

-- sessions without statements make no file
none_asks : (n : ℕ) (m : List ℕ) → AnySessionAsks (replicate n []) m → ⊥
none_asks zero m asks = asks
none_asks (suc n) m (inl asks) = asks
none_asks (suc n) m (inr asks) = none_asks n m asks

-- a run that was done, or failed, refuses nothing
done_never : (result : Result Status RunError) → IfOk result (λ status. status ≡ Done) → ends_refused (status_of_end result) ≡ true → ⊥
done_never (Ok status) done ends = true≢false (sym ends ∙ ap ends_refused done)
done_never (Err DeviceError) done ends = true≢false (sym ends)
done_never (Err MemoryError) done ends = true≢false (sym ends)

failed_never : (stop : RunError) → ends_refused (status_of_end (Err stop)) ≡ true → ⊥
failed_never stop ends = done_never (Err stop) tt ends

module _ {H : Type 0} (world : H → World) (tells : Bool) (told : IsTrue tells) (timely : (host : H) → IsTimely (world host)) (beside : (host : H) → LeavesAll (world host) (world host).files) where
  -- ---- how a part ends

  stopped : (ended result : Result Status RunError) (old mid new : H) (names : Names) → OutToEnd ended (world old) (world mid) names → Stops ended result mid new → OutToEnd result (world old) (world new) names
  stopped ended result old mid new names out stops =
      subst (λ (r : Result Status RunError). OutToEnd r (world old) (world new) names) (sym stops.0) (subst (λ (h : H). OutToEnd ended (world old) (world h) names) (sym stops.1) out)

  failed : (stop : RunError) (result : Result Status RunError) (old mid new : H) (names : Names) → StaysOut (world old) (world mid) names → Stops (Err stop) result mid new → OutToEnd result (world old) (world new) names
  failed stop result old mid new names out stops = stopped (Err stop) result old mid new names (record { out = out; says = λ ends. absurd (failed_never stop ends) }) stops

  refused : (result : Result Status RunError) (old new : H) (refusal : Refusal) (names : Names) → Refuses result (world old) (world new) refusal → OutToEnd result (world old) (world new) names
  refused result old new refusal names refuses = record {
    out = stays_leaves (world old) (world new) names (leaves_line result (world old) (world new) (line_text 1 (RefusedReply refusal)) names (timely new) (beside new) refuses.line);
    says = by result refuses.line;
  }
    where
      by : (r : Result Status RunError) → SaysLine r (world old) (world new) (line_text 1 (RefusedReply refusal)) → ends_refused (status_of_end r) ≡ true → SaysRefusal (world old) (world new)
      by (Ok status) line ends = record { session = 1; refusal = refusal; before = []; behind = []; is = line.said ∙ ap (λ (l : List ℕ). (world old).said ++ l) (sym (append-nil (line_text 1 (RefusedReply refusal)))) }
      by (Err stop) line ends = absurd (failed_never stop ends)

  replied : (result : Result Status RunError) (old new : H) (reply : Reply) (names : Names) → Replies result (world old) (world new) reply → OutToEnd result (world old) (world new) names
  replied result old new reply names replies = record {
    out = stays_leaves (world old) (world new) names (leaves_line result (world old) (world new) (line_text 1 reply) names (timely new) (beside new) replies.line);
    says = λ ends. absurd (done_never result replies.ended ends);
  }

  -- ---- the parts

  module _ (primary standby : List ℕ) (fits : is_database primary ≡ true) (given : is_database standby ≡ true) where
    abbrev its : Names
    its = OfShip primary standby

    abbrev ship : List ℕ
    ship = ship_of standby

    copy_touches : (since : List ℕ) (ended : Result Status RunError) (old mid : H) → GoesOn world tells ended old mid (copying primary since ship) → TouchesOnly (status_of_end ended) (world old) (world mid) (MayTouch (Ok (ToRun (plan_of primary (asks_of (BackupSince since ship))) Sparingly)))
    copy_touches since ended old mid goes =
        done_touches world tells told (status_of_end ended) old mid (timely mid) (beside mid) (copying primary since ship) tt (told_opened (world old).files primary (asks_of (BackupSince since ship)) Sparingly fits)
        (ended_so world tells old mid (copying primary since ship) (attach_askable primary (BackupSince since ship) fits (ship_file standby given)) (λ t. beside old) (timely mid) (λ t. beside mid) ended goes)

    of_copy : (since m : List ℕ) → MayTouch (Ok (ToRun (plan_of primary (asks_of (BackupSince since ship))) Sparingly)) m → its m
    of_copy since m (inl own) = inl own
    of_copy since m (inr (inl (inl same))) = inr (inr same)
    of_copy since m (inr (inl (inr none))) = absurd none
    of_copy since m (inr (inr later)) = absurd (none_asks 15 m later)

    copied : (since : List ℕ) (ended : Result Status RunError) (old mid : H) → GoesOn world tells ended old mid (copying primary since ship) → OutToEnd ended (world old) (world mid) its
    copied since ended old mid goes =
        let touches = copy_touches since ended old mid goes in
        record {
          out = record {
            moments = weaker (world old) (world mid) _ _ touches.moments (λ files said left. record { added = left.added; others = λ m off. left.others m (λ one. off (of_copy since m one)) });
            left = λ m file off leaves. touches.left m file (λ one. off (of_copy since m one)) leaves;
            reads = λ m off. touches.reads m (λ one. off (of_copy since m one));
            added = touches.added;
          };
          says = touches.says;
        }

    copy_out : (since : List ℕ) (next : H → Type 0) (result : Result Status RunError) (old new : H) → Copies world tells result old new primary since ship next → ((mid : H) → next mid → OutToEnd result (world mid) (world new) its)
        → OutToEnd result (world old) (world new) its
    copy_out since next result old new copies goes_on = by copies.ended (copied since copies.ended old copies.mid copies.goes) copies.after
      where
        by : (ended : Result Status RunError) → OutToEnd ended (world old) (world copies.mid) its → AfterCopy next ended result copies.mid new → OutToEnd result (world old) (world new) its
        by (Ok Done) out after = out_then result (world old) (world copies.mid) (world new) its out.out (goes_on copies.mid after)
        by (Ok RefusedStatus) out after = stopped (Ok RefusedStatus) result old copies.mid new its out after
        by (Ok UsageStatus) out after = stopped (Ok UsageStatus) result old copies.mid new its out after
        by (Ok DeviceStatus) out after = stopped (Ok DeviceStatus) result old copies.mid new its out after
        by (Ok MemoryStatus) out after = stopped (Ok MemoryStatus) result old copies.mid new its out after
        by (Err stop) out after = stopped (Err stop) result old copies.mid new its out after

    merge_out : (next : Reply → H → Type 0) (result : Result Status RunError) (old new : H) → Merges world result old new standby ship next → ((reply : Reply) (mid : H) → next reply mid → OutToEnd result (world mid) (world new) its)
        → OutToEnd result (world old) (world new) its
    merge_out next result old new merges goes_on = by merges.taken merges.after
      where
        out : StaysOut (world old) (world merges.mid) its
        out = stays_leaves (world old) (world merges.mid) its (leaves_among (world old) (world merges.mid) (Only standby) its (λ m one. inr (inl one)) (leaves_changes (world old) (world merges.mid) (Only standby) _ merges.serves.left))

        by : (taken : Result Reply Fault) → AfterMerge world next taken result merges.mid new → OutToEnd result (world old) (world new) its
        by (Ok reply) after = out_then result (world old) (world merges.mid) (world new) its out (goes_on reply merges.mid after)
        by (Err (Refused refusal)) after = out_then result (world old) (world merges.mid) (world new) its out (refused result merges.mid new refusal its after)
        by (Err Device) after = failed DeviceError result old merges.mid new its out after
        by (Err Memory) after = failed MemoryError result old merges.mid new its out after

    discard_out : (next : H → Type 0) (result : Result Status RunError) (old new : H) → Discards world result old new ship next → ((mid : H) → next mid → OutToEnd result (world mid) (world new) its) → OutToEnd result (world old) (world new) its
    discard_out next result old new discards goes_on = ⊎_elim
        (λ after. out_then result (world old) (world discards.mid) (world new) its out (goes_on discards.mid after.1))
        (λ stops. failed DeviceError result old discards.mid new its out stops) discards.after
      where
        out : StaysOut (world old) (world discards.mid) its
        out = stays_leaves (world old) (world discards.mid) its (leaves_among (world old) (world discards.mid) (Only ship) its (λ m one. inr (inr one)) (leaves_changes (world old) (world discards.mid) (Only ship) _ discards.removes.left))

    takes_out : (since : List ℕ) (steps : List Step) (merged : Option Reply) (result : Result Status RunError) (old new : H) → TakesSteps world tells primary standby since steps merged result old new → OutToEnd result (world old) (world new) its
    takes_out since [] None result old new takes = absurd takes
    takes_out since [] (Some reply) result old new takes = replied result old new reply its takes
    takes_out since (Copy ∷ steps) merged result old new takes = copy_out since _ result old new takes (λ mid more. takes_out since steps merged result mid new more)
    takes_out since (Apply ∷ steps) merged result old new takes = merge_out _ result old new takes (λ reply mid more. takes_out since steps (Some reply) result mid new more)
    takes_out since (Discard ∷ steps) merged result old new takes = discard_out _ result old new takes (λ mid more. takes_out since steps merged result mid new more)

    ships_out : (result : Result Status RunError) (old new : H) → ShipsByPlan world tells result old new primary standby → OutToEnd result (world old) (world new) its
    ships_out result old new ships = by ships.planned ships.after
      where
        out : StaysOut (world old) (world ships.mid) its
        out = stays_leaves (world old) (world ships.mid) its (leaves_quiet (world old) (world ships.mid) its ships.quiet)

        by : (planned : Result ShipPlan Fault) → AfterPlan world tells primary standby planned result ships.mid new → OutToEnd result (world old) (world new) its
        by (Ok plan) after = out_then result (world old) (world ships.mid) (world new) its out (takes_out plan.since (steps_from plan.first) None result ships.mid new after)
        by (Err (Refused refusal)) after = out_then result (world old) (world ships.mid) (world new) its out (refused result ships.mid new refusal its after)
        by (Err Device) after = failed DeviceError result old ships.mid new its out after
        by (Err Memory) after = failed MemoryError result old ships.mid new its out after

    pub ship_touches : (result : Result Status RunError) (old new : H) → ShipsByPlan world tells result old new primary standby → TouchesOnly (status_of_end result) (world old) (world new) its
    ship_touches result old new ships =
        let out = ships_out result old new ships in
        record { moments = out.out.moments; left = out.out.left; reads = out.out.reads; added = out.out.added; says = out.says }
