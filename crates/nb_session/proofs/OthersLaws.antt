-- How calls go on that leave other files alone, and what was said meanwhile.
use Rattle.std.proofs.Common.{◌≡◌, ℕ, List, [], ◌++◌, sym, ap, ◌∙◌, append_assoc, Result}
use Rattle.nb_session.proofs.Common.{append-nil, Files, World, LeavesAll, IsTimely, AtEachMoment, Names, Changes, rested, weaker, left_before, untouched_joined, untouched_fewer, Quiet, IsAdded, OthersLeft, LeavesOthers, SaysLine}
use Rattle.nb_change.proofs.MomentLaws.{joined}

-- nothing more was said
added_none : (old : World) (said : List ℕ) → said ≡ old.said → IsAdded old said
added_none old said same = record { part = []; is = same ∙ sym (append-nil old.said) }

-- and then more
pub added_then : (old mid : World) (said : List ℕ) → IsAdded old mid.said → IsAdded mid said → IsAdded old said
added_then old mid said first second = record {
  part = first.part ++ second.part;
  is = second.is ∙ ap (λ (l : List ℕ). l ++ second.part) first.is ∙ append_assoc old.said first.part second.part;
}

-- what holds at each moment holds now
pub now_left : (old new : World) (P : Files → List ℕ → Type 0) → IsTimely new → LeavesAll new new.files → AtEachMoment old new P → P new.files new.said
now_left old new P timely reads moments = moments.each new.files new.said (timely.counts_now old.moment new.files moments.later reads)

-- a change of files without a word
pub leaves_changes : (old new : World) (names : Names) (P : Files → Type 0) → Changes old new names P → LeavesOthers old new names
leaves_changes old new names P changes = record {
  moments = weaker old new _ _ changes.moments (λ files said left. record { added = added_none old said left.output; others = left.others });
  others = changes.others;
  others_read = changes.others_read;
  added = added_none old new.said changes.said;
}

-- calls that change nothing
pub leaves_quiet : (old new : World) (names : Names) → Quiet old new → LeavesOthers old new names
leaves_quiet old new names quiet = leaves_changes old new names (λ files. Unit {0}) (rested old new names (λ files. Unit {0}) quiet.still quiet.said quiet.moments (λ files left. tt))

-- a line was said, or a front of it
pub leaves_line : {T E : Type 0} (result : Result T E) (old new : World) (line : List ℕ) (names : Names) → IsTimely new → LeavesAll new new.files → SaysLine result old new line → LeavesOthers old new names
leaves_line result old new line names timely reads says = record {
  moments = moments;
  others = untouched_fewer old new _ _ says.still.left (λ m other. tt);
  others_read = λ m other. ap (λ (f : Files). f m) says.still.files;
  added = (now_left old new (OthersLeft old names) timely reads moments).added;
}
  where
    moments : AtEachMoment old new (OthersLeft old names)
    moments = weaker old new _ _ says.moments (λ files said front. record { added = record { part = _; is = front.is }; others = λ m other. front.left m })

-- one run of calls after another
pub leaves_then : (old mid new : World) (names : Names) → LeavesOthers old mid names → LeavesOthers mid new names → LeavesOthers old new names
leaves_then old mid new names first second = record {
  moments = joined old mid new _ _ _ first.moments second.moments (λ files said left. left) (λ files said left. record {
    added = added_then old mid said first.added left.added;
    others = λ m other. left_before old mid _ first.others m (files m) other (left.others m other);
  });
  others = untouched_joined old mid new _ first.others second.others;
  others_read = λ m other. second.others_read m other ∙ first.others_read m other;
  added = added_then old mid new.said first.added second.added;
}

-- more names are allowed for
pub leaves_among : (old new : World) (few many : Names) → ((m : List ℕ) → few m → many m) → LeavesOthers old new few → LeavesOthers old new many
leaves_among old new few many are leaves = record {
  moments = weaker old new _ _ leaves.moments (λ files said left. record { added = left.added; others = λ m other. left.others m (λ one. other (are m one)) });
  others = untouched_fewer old new _ _ leaves.others (λ m other one. other (are m one));
  others_read = λ m other. leaves.others_read m (λ one. other (are m one));
  added = leaves.added;
}
