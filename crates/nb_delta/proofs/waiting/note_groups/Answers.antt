use Rattle.std.proofs.Common.{◌≡◌, ℕ, ◌+◌, List, length, refl, ◌∙◌, subst, arith}
use Rattle.nb_delta.proofs.Common.{Only, Changes, Moved, moved_begun, moved_joined, NotesSome, NotesAll}
use Rattle.nb_delta.proofs.MoveLaws.{silence_none, silence_joined}
use Rattle.nb_delta.proofs.NotingLaws.{some_none, some_more, some_wider, all_none, all_more}
use Rattle.nb_delta.proofs.waiting.note_groups.Goals as goal

pub loop-group-init : goal.loop-group-init
loop-group-init g c =
    let size : ℕ = length c.args.page.now in
    record {
      noted = λ tells. all_none size c.requires.size c.args.entries.now c.args.first _;
      changes = λ tells. moved_begun (g.H.Host.world c.args.host.now) (Only c.args.name.now) c.args.name.now (NotesSome size c.args.entries.now c.args.first c.args.first) (g.met.H.Host.timely c.args.host.now)
          (λ d was. some_none size c.requires.size c.args.entries.now c.args.first c.args.first d);
      log = silence_none (g.H.Host.world c.args.host.now);
      cause = refl;
    }

pub loop-group-preserved : goal.loop-group-preserved
loop-group-preserved g c =
    let size : ℕ = length c.args.page.now in
    let entries : List ℕ = c.args.entries.now in
    let first : ℕ = c.args.first in
    let group : ℕ = c.loop-group.group in
    let same : length c.loop-group.page ≡ size = c.loop-group.auto.page in
    record {
      noted = λ tells. all_more size c.requires.size entries first group (omega arith) _ _ _ (c.loop-group.invariant.noted tells) (subst (λ (n : ℕ). NotesAll n entries group (group + 1) ((g.H.Host.world c.loop-group.host).files c.args.name.now) ((g.H.Host.world c.note_group.new.host).files c.args.name.now)) same (c.in_ok-note_group.ensures.noted tells));
      changes = λ tells.
          moved_joined (g.H.Host.world c.args.host.now) (g.H.Host.world c.loop-group.host) (g.H.Host.world c.note_group.new.host) c.args.name.now (NotesSome size entries first group) (NotesSome (length c.loop-group.page) entries group (group + 1)) (NotesSome size entries first (group + 1))
          (c.loop-group.invariant.changes tells) (c.note_group.ensures.changes tells)
          (λ b d was some. some_wider size c.requires.size entries first group (group + 1) b d (omega arith) some)
          (λ b d x was still some next. some_more size c.requires.size entries first group (omega arith) b d x some (subst (λ (n : ℕ). NotesSome n entries group (group + 1) d x) same next));
      log = silence_joined _ _ _ c.loop-group.invariant.log c.note_group.ensures.log;
      cause = c.in_ok-note_group.ensures.cause ∙ c.loop-group.invariant.cause;
    }

pub returns-in_err-note_group-clause-changes : goal.returns-in_err-note_group-clause-changes
returns-in_err-note_group-clause-changes g c tells =
    let size : ℕ = length c.args.page.now in
    let entries : List ℕ = c.args.entries.now in
    let first : ℕ = c.args.first in
    let group : ℕ = c.loop-group.group in
    let same : length c.loop-group.page ≡ size = c.loop-group.auto.page in
    moved_joined (g.H.Host.world c.args.host.now) (g.H.Host.world c.loop-group.host) (g.H.Host.world c.note_group.new.host) c.args.name.now (NotesSome size entries first group) (NotesSome (length c.loop-group.page) entries group (group + 1)) (NotesSome size entries first c.args.end)
    (c.loop-group.invariant.changes tells) (c.note_group.ensures.changes tells)
    (λ b d was some. some_wider size c.requires.size entries first group c.args.end b d (omega arith) some)
    (λ b d x was still some next. some_wider size c.requires.size entries first (group + 1) c.args.end b x (omega arith)
    (some_more size c.requires.size entries first group (omega arith) b d x some (subst (λ (n : ℕ). NotesSome n entries group (group + 1) d x) same next)))

pub returns-in_err-note_group-clause-log : goal.returns-in_err-note_group-clause-log
returns-in_err-note_group-clause-log g c = silence_joined _ _ _ c.loop-group.invariant.log c.note_group.ensures.log

pub returns-clause-changes : goal.returns-clause-changes
returns-clause-changes g c tells =
    let size : ℕ = length c.args.page.now in
    let all : c.loop-group.group ≡ c.args.end = omega arith in
    subst (λ (n : ℕ). Changes (g.H.Host.world c.args.host.now) (g.H.Host.world c.loop-group.host) (Only c.args.name.now) (Moved (g.H.Host.world c.args.host.now) c.args.name.now (NotesSome size c.args.entries.now c.args.first n))) all
    (c.loop-group.invariant.changes tells)
