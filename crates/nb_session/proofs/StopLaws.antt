-- How what a crash leaves goes on from turn to turn.
use Rattle.std.proofs.Common.{◌≡◌, ◌⊎◌, inl, inr, ℕ, ◌+◌, ◌≤◌, List, ◌++◌, length, take, sym, ap, subst, ◌∙◌, arith, append_assoc, length-append, length-take, Contains, Some}
use Rattle.nb_session.proofs.Common.{take-append-add, take-append-le, Contains-append_cases, File, Files, World, Leaves, Untouched, IsDurable, Remade, left_before, MadeFile, AreAmong, NamesOnce, Event, files_made, output, Step, steps_of, after_steps, acked_turns, acked_steps, Trail, StandsIn, front_more, front_behind, steps_length, steps_front, steps_behind, after_steps_append, turns_front, turns_behind, acked_steps_front, acked_steps_behind, turns_most, made_append, OfFiles, IsUnfinishedOr, Touched, MadeLeft, StopLeft, AreWhole, begun_turns, open_steps}
use Rattle.nb_change.specs.Changes.{Other}
use Rattle.nb_session.proofs.HowFarLaws.{begun_front, begun_behind, begun_most, open_front, open_behind}
use Rattle.nb_session.proofs.MadeLaws.{named_tells, made_grow}

-- none of the files is one of the database's two
abbrev pub AreApart : (name : List ℕ) → List MadeFile → Type 0
AreApart name made = (n bytes : List ℕ) → Contains made (n, bytes) → OfFiles name n → ⊥

-- what a crash leaves of each file it would have left before, or an unfinished file, or a whole one
abbrev pub FileLeft : World → (name bytes : List ℕ) → File → Type 0
FileLeft old name bytes file = Leaves old name file ⊎ IsUnfinishedOr bytes file

-- Of more files than those that are made, the others are as they were.
module _ (name : List ℕ) (few many : List MadeFile) (among : AreAmong few many) where
  touched_more : (n : List ℕ) → Touched name few n → Touched name many n
  touched_more n (inl own) = inl own
  touched_more n (inr there) = inr (there.0, among (n, there.0) there.1)

  pub others_fewer : (n : List ℕ) → Other (Touched name many) n → Other (Touched name few) n
  others_fewer n other touched = other (touched_more n touched)

  module _ (once : NamesOnce many) (apart : AreApart name many) where
    by_name : (P : List ℕ → Type 0) (n bytes : List ℕ) → Contains many (n, bytes) → ((whole : List ℕ) → Contains few (n, whole) → P whole) → (Other (Touched name few) n → P bytes) → P bytes
    by_name P n bytes there made others = elim (named_tells few n) [
      | inl one ↦ subst P (once n one.0 bytes (among (n, one.0) one.1) there) (made one.0 one.1)
      | inr none ↦ others (elim [ inl own ↦ apart n bytes there own | inr one ↦ none one.0 one.1 ])
    ]

    pub each_more : (old : World) (files : Files) → MadeLeft old few files → ((n : List ℕ) → Other (Touched name few) n → Leaves old n (files n)) → MadeLeft old many files
    each_more old files each others n bytes there = by_name (λ (whole : List ℕ). Remade old n (IsUnfinishedOr whole) files) n bytes there (each n) (λ other. inl (others n other))

    pub left_more : (old new : World) → ((n bytes : List ℕ) (file : File) → Contains few (n, bytes) → Leaves new n file → FileLeft old n bytes file) → Untouched old new (Other (Touched name few))
        → (n bytes : List ℕ) (file : File) → Contains many (n, bytes) → Leaves new n file → FileLeft old n bytes file
    left_more old new left same n bytes file there leaves =
        by_name (λ (whole : List ℕ). FileLeft old n whole file) n bytes there (λ whole one. left n whole file one leaves) (λ other. inl (left_before old new _ same n file other leaves))

    pub stop_wider : (old : World) (t : Trail) (es : List Event) (files : Files) (said : List ℕ) → StopLeft old name t es few files said → StopLeft old name t es many files said
    stop_wider old t es files said left = record {
      out = left.out;
      count = left.count;
      front = left.front;
      database = left.database;
      each = each_more old files left.each left.others;
      whole = left.whole;
      begun = left.begun;
      others = λ n other. left.others n (others_fewer n other);
    }

part_fits : (part : List ℕ) (all : List ℕ) → part ≡ take (length part) all → length part ≤ length all
part_fits part all is = omega (arith, ap length is, length-take (length part) all)

-- the files of the turns that are acknowledged once so much was said
abbrev acked_files : List Event → (said : ℕ) → List MadeFile
acked_files es said = files_made (take (acked_turns es said) es)

-- the files of the turns that have begun once so many steps were made
abbrev begun_files : List Event → (count : ℕ) → List MadeFile
begun_files es count = files_made (take (begun_turns es count) es)

-- of the second list none are among them as long as no more steps were made than those of the first
begun_files_front : (es fs : List Event) (count : ℕ) → count ≤ length (steps_of es) → begun_files (es ++ fs) count ≡ begun_files es count
begun_files_front es fs count low = ap (λ n. files_made (take n (es ++ fs))) (begun_front es fs count low) ∙ ap files_made (take-append-le (begun_turns es count) es fs (begun_most es count))

-- as long as no more is said than the lines of the first turns, they are those of these turns
files_front : (es fs : List Event) (said : ℕ) → said ≤ length (output es) → acked_files (es ++ fs) said ≡ acked_files es said
files_front es fs said low = ap (λ n. files_made (take n (es ++ fs))) (turns_front es fs said low) ∙ ap files_made (take-append-le (acked_turns es said) es fs (turns_most es said))

-- and of more turns than all of the first they are at most all of the first, and those of the second
files_behind : (es fs : List Event) (turns more : ℕ) → turns ≤ length es + more → AreAmong (files_made (take turns (es ++ fs))) (files_made es ++ files_made (take more fs))
files_behind es fs turns more most =
    subst (AreAmong (files_made (take turns (es ++ fs)))) (ap files_made (take-append-add es fs more) ∙ made_append es (take more fs)) (made_grow (es ++ fs) turns (length es + more) most)

-- more events come after
pub stop_more : (old : World) (name : List ℕ) (t : Trail) (es fs : List Event) (made : List MadeFile) (files : Files) (said : List ℕ) → StopLeft old name t es made files said → StopLeft old name t (es ++ fs) made files said
stop_more old name t es fs made files said left =
    let fits : length left.out.part ≤ length (output es) = part_fits left.out.part (output es) left.out.front in
    let low = acked_steps_front es fs (length left.out.part) fits in
    record {
      out = record { part = left.out.part; is = left.out.is; front = front_more es fs left.out.part left.out.front };
      count = left.count;
      front = record {
        most = omega (arith, steps_length es fs, left.front.most);
        acknowledged = omega (arith, low, left.front.acknowledged);
        unsaid = omega (arith, open_front es fs (length left.out.part), left.front.unsaid);
      };
      database = subst (λ (ss : List Step). StandsIn name (after_steps t ss) files) (sym (steps_front es fs left.count left.front.most)) left.database;
      each = left.each;
      whole = subst (λ (ms : List MadeFile). AreWhole ms files) (sym (files_front es fs (length left.out.part) fits)) left.whole;
      begun = subst (λ (ms : List MadeFile). AreWhole ms files) (sym (begun_files_front es fs left.count left.front.most)) left.begun;
      others = left.others;
    }

-- a file that is kept for good, and that the turns after don't make
pub record Stays (w : World) (name : List ℕ) (made : List MadeFile) (n bytes : List ℕ) : Type 0 where
  pub durable : IsDurable w n (Some bytes)
  pub other : Other (Touched name made) n

stays_whole : (w : World) (name : List ℕ) (made : List MadeFile) (n bytes : List ℕ) (file : File) → Stays w name made n bytes → Leaves w n file → file ≡ Some bytes
stays_whole w name made n bytes file stays (inl back) = stays.durable.none_back file back
stays_whole w name made n bytes file stays (inr now) = stays.durable.only file now

-- Events after events: of the first these files were made, and of the second those among all.
module _ (old mid : World) (name : List ℕ) (t : Trail) (es fs : List Event) (made all : List MadeFile) (among : AreAmong made all) (once : NamesOnce all) (apart : AreApart name all) where
  pub stop_then : (files : Files) (said : List ℕ) → mid.said ≡ old.said ++ output es → Untouched old mid (Other (Touched name all)) → ((n bytes : List ℕ) (file : File) → Contains all (n, bytes) → Leaves mid n file → FileLeft old n bytes file)
      → ((n bytes : List ℕ) → Contains (files_made es) (n, bytes) → Stays mid name made n bytes) → StopLeft mid name (after_steps t (steps_of es)) fs made files said → StopLeft old name t (es ++ fs) all files said
  stop_then files said silent same back stays left =
      let part : List ℕ = output es ++ left.out.part in
      let long : length part ≡ length (output es) + length left.out.part = length-append (output es) left.out.part in
      let low = acked_steps_behind es fs (length left.out.part) in
      let acked_is : acked_steps (es ++ fs) (length part) ≡ acked_steps (es ++ fs) (length (output es) + length left.out.part) = ap (acked_steps (es ++ fs)) long in
      let open_is : open_steps (es ++ fs) (length part) ≡ open_steps (es ++ fs) (length (output es) + length left.out.part) = ap (open_steps (es ++ fs)) long in
      let is : after_steps (after_steps t (steps_of es)) (take left.count (steps_of fs)) ≡ after_steps t (take (length (steps_of es) + left.count) (steps_of (es ++ fs))) =
      sym (after_steps_append t (steps_of es) (take left.count (steps_of fs))) ∙ ap (after_steps t) (sym (steps_behind es fs left.count)) in
      record {
        out = record {
          part = part;
          is = left.out.is ∙ ap (λ (l : List ℕ). l ++ left.out.part) silent ∙ append_assoc old.said (output es) left.out.part;
          front = front_behind es fs left.out.part left.out.front;
        };
        count = length (steps_of es) + left.count;
        front = record {
          most = omega (arith, steps_length es fs, left.front.most);
          acknowledged = omega (arith, low, acked_is, left.front.acknowledged);
          unsaid = omega (arith, open_behind es fs (length left.out.part), open_is, left.front.unsaid);
        };
        database = subst (λ (u : Trail). StandsIn name u files) is left.database;
        each = λ n bytes there. elim (each_more name made all among once apart mid files left.each left.others n bytes there) [ inl leaves ↦ back n bytes (files n) there leaves | inr is ↦ inr is ];
        whole = whole_then (acked_turns (es ++ fs) (length part)) (acked_turns fs (length left.out.part)) (omega (arith, turns_behind es fs (length left.out.part), ap (acked_turns (es ++ fs)) long)) left.whole;
        begun = whole_then (begun_turns (es ++ fs) (length (steps_of es) + left.count)) (begun_turns fs left.count) (begun_behind es fs left.count) left.begun;
        others = λ n other. left_before old mid _ same n (files n) other (left.others n (others_fewer name made all among n other));
      }
    where
      -- the files of the first are whole, and those of so many turns of the second
      whole_then : (turns more : ℕ) → turns ≤ length es + more → AreWhole (files_made (take more fs)) files → AreWhole (files_made (take turns (es ++ fs))) files
      whole_then turns more most second n bytes there = elim (Contains-append_cases (files_made es) (files_made (take more fs)) (n, bytes) (files_behind es fs turns more most (n, bytes) there)) [
        | inl first ↦ (let one = stays n bytes first in stays_whole mid name made n bytes (files n) one (left.others n one.other))
        | inr later ↦ second n bytes later
      ]
