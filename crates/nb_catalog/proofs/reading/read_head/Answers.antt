use Rattle.std.proofs.Common.{ℕ, List, ap, subst, sym, ◌∙◌}
use Rattle.nb_catalog.proofs.Common.{File, Files, bytes_of, begins_level, Says, read_file, WholeSays}
use Rattle.nb_catalog.proofs.HeadLaws.{level_says, level_counted, level_within, other_within, start_within, whole_counted}
use Rattle.nb_catalog.proofs.reading.read_head.Goals as goal

pub returns-then-branch-clause-answer : goal.returns-then-branch-clause-answer
returns-then-branch-clause-answer g c tells =
    let name : List ℕ = c.args.name.now in
    let file : File = (g.H.Host.world c.args.host.now).files name in
    let same = ap (λ (f : Files). f name) c.is_level.ensures.quiet.still.files in
    let before : ℕ = (g.H.Host.world c.is_level.new.host).reads in
    let after : ℕ = (g.H.Host.world c.whole.new.host).reads in
    level_says file name before after c.whole.result (sym (c.in_ok-is_level.ensures.answer tells) ∙ c.if-branch.true)
    (subst (λ (f : File). WholeSays f name before after c.whole.result) same (c.whole.ensures.answer tells))

pub returns-then-branch-clause-reads : goal.returns-then-branch-clause-reads
returns-then-branch-clause-reads g c tells =
    let name : List ℕ = c.args.name.now in
    let file : File = (g.H.Host.world c.args.host.now).files name in
    let same = ap (λ (f : Files). f name) c.is_level.ensures.quiet.still.files in
    let before : ℕ = (g.H.Host.world c.is_level.new.host).reads in
    let after : ℕ = (g.H.Host.world c.whole.new.host).reads in
    level_counted file name c.whole.result (g.H.Host.world c.args.host.now).reads before after
    (subst (λ (f : File). WholeSays f name before after c.whole.result) same (c.whole.ensures.answer tells)) (c.is_level.ensures.reads tells)

pub returns-else-branch-clause-reads : goal.returns-else-branch-clause-reads
returns-else-branch-clause-reads g c tells =
    let name : List ℕ = c.args.name.now in
    let file : File = (g.H.Host.world c.args.host.now).files name in
    let same = ap (λ (f : Files). f name) c.is_level.ensures.quiet.still.files in
    let begins = sym (c.in_ok-is_level.ensures.answer tells) ∙ c.if-branch.false in
    whole_counted file name c.read_whole.result (g.H.Host.world c.args.host.now).reads (g.H.Host.world c.is_level.new.host).reads (g.H.Host.world c.read_whole.new.host).reads begins
    (subst (λ (f : File). Says (read_file name f) c.read_whole.result) same (c.read_whole.ensures.answer tells (ap (λ (f : File). begins_level (bytes_of f)) same ∙ begins)))
    (c.read_whole.ensures.reads tells) (c.is_level.ensures.reads tells)

pub returns-in_err-is_level-clause-within : goal.returns-in_err-is_level-clause-within
returns-in_err-is_level-clause-within g c tells = start_within ((g.H.Host.world c.args.host.now).files c.args.name.now) _ _ (c.is_level.ensures.reads tells)

pub returns-then-branch-clause-within : goal.returns-then-branch-clause-within
returns-then-branch-clause-within g c tells =
    level_within _ _ _ _ _ (ap (λ (f : Files). f c.args.name.now) c.is_level.ensures.quiet.still.files) (sym (c.in_ok-is_level.ensures.answer tells) ∙ c.if-branch.true) (c.is_level.ensures.reads tells) (c.whole.ensures.within tells)

pub returns-else-branch-clause-within : goal.returns-else-branch-clause-within
returns-else-branch-clause-within g c tells =
    let same = ap (λ (f : Files). f c.args.name.now) c.is_level.ensures.quiet.still.files in
    let begins = sym (c.in_ok-is_level.ensures.answer tells) ∙ c.if-branch.false in
    other_within ((g.H.Host.world c.args.host.now).files c.args.name.now) _ _ _ begins (c.is_level.ensures.reads tells) (c.read_whole.ensures.once tells (ap (λ (f : File). begins_level (bytes_of f)) same ∙ begins))
