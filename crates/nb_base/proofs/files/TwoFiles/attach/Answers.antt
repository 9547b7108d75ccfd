use Rattle.std.proofs.Common.{◌≡◌, ℕ, ◌+◌, ◌*◌, ◌≤◌, List, length, refl, sym, ap, subst, ◌∙◌, arith, max, not, ◌==◌}
use Rattle.nb_base.proofs.Common.{take_at, number_in, File, Files, World, IsDurable, durable_still, Quiet, quiet_joined, ShowsIn, some_page, Known, delta_name, behind_entries, Start, table_reads}
use Rattle.nb_base.proofs.AttachLaws.{there}
use Rattle.nb_base.proofs.OpenedLaws.{answer_at, start_refused, delta_refused, read_base, read_shows, read_size, read_some, read_attached}
use Rattle.nb_base.proofs.OpeningReads.{opened_reads}
use Rattle.nb_base.proofs.PageReads.{first_read}
use Rattle.nb_base.proofs.StaysLaws.{durable_file}
use Rattle.nb_base.proofs.files.TwoFiles.attach.Goals as goal

pub returns-in_err-start-clause-attaches : goal.returns-in_err-start-clause-attaches
returns-in_err-start-clause-attaches g c tells = start_refused Start _ c.from_residual.result c.in_err-start.field-0.0 _ _ c.args.name.now c.from_residual.ensures (c.in_err-start.ensures.test tells)

pub returns-in_err-delta-clause-attaches : goal.returns-in_err-delta-clause-attaches
returns-in_err-delta-clause-attaches g c tells =
    let old : World = g.H.Host.world c.args.host.now in
    let file = there c.args.name.now _ (c.in_ok-start.ensures.test tells) in
    let is = c.in_ok-start.ensures.start tells file.bytes file.is in
    let beside = ap (λ (f : Files). f c.delta-beside.result) c.in_ok-start.ensures.quiet.still.files ∙ ap old.files c.delta-beside.ensures in
    delta_refused c.args.name.now file.bytes c.in_ok-start.start is _ c.from_residual-in_err-delta.result _ c.in_err-delta.field-0.0 _ _ file.is c.from_residual-in_err-delta.ensures refl
    (answer_at _ _ _ _ _ _ _ c.delta-beside.ensures beside (c.in_err-delta.ensures.answer tells))

pub returns-clause-attaches : goal.returns-clause-attaches
returns-clause-attaches g c tells =
    let old : World = g.H.Host.world c.args.host.now in
    let name : List ℕ = c.args.name.now in
    let delta : List ℕ = delta_name name in
    let kept : World = g.H.Host.world c.keep_files.new.host in
    let new : World = g.H.Host.world c.read_owned.new.host in
    let file = there name _ (c.in_ok-start.ensures.test tells) in
    let is = c.in_ok-start.ensures.start tells file.bytes file.is in
    let beside = ap (λ (f : Files). f c.delta-beside.result) c.in_ok-start.ensures.quiet.still.files ∙ ap old.files c.delta-beside.ensures in
    let answer = answer_at _ _ _ _ _ _ _ c.delta-beside.ensures beside (c.in_ok-delta.ensures.answer tells) in
    let met = c.in_ok-delta.ensures.quiet.still.files ∙ c.in_ok-start.ensures.quiet.still.files in
    let counted = ap (λ (h : _). (g.H.Host.world h).files) c.in_ok-count.ensures.no_call ∙ c.in_ok-main_count.ensures.quiet.still.files ∙ met in
    let known = c.in_ok-count.ensures.same in
    let size : length c.deref_mut.result.now ≡ c.in_ok-start.start.page_size = omega (arith, c.deref_mut.ensures.len, c.in_ok-page.ensures.len) in
    let main_count = c.in_ok-main_count.ensures.length tells file.bytes (ap (λ (f : Files). f name) met ∙ file.is) is.formed (sym is.page_size ∙ sym size) (is.pages ∙ ap (λ (k : ℕ). c.in_ok-start.start.pages * k) (sym size)) in
    let still = c.in_ok-read_owned.ensures.quiet.still in
    let held = c.in_ok-read_owned.ensures.same ∙ known in
    let same = c.in_ok-keep_files.ensures.quiet.still.files ∙ counted in
    let base = read_base name file.bytes c.in_ok-start.start is (old.files delta) c.in_ok-delta.delta answer in
    let shown = read_shows name file.bytes c.in_ok-start.start is (old.files delta) c.in_ok-delta.delta answer kept.files (ap (λ (f : Files). f name) same ∙ file.is) (ap (λ (f : Files). f delta) same) in
    let page = first_read kept.files name c.count_with.new.delta base c.read_owned.new.into _ shown
    (ap (λ (d : Known). d.page_size) known ∙ c.in_ok-delta.ensures.known.page_size ∙ read_size name file.bytes c.in_ok-start.start is (old.files delta) c.in_ok-delta.delta answer)
    (ap (λ (d : Known). d.entries) known) (read_some name file.bytes c.in_ok-start.start is (old.files delta) c.in_ok-delta.delta answer) (omega (arith, c.deref_mut-2.ensures.len, c.in_ok-first.ensures.len, ap (λ (d : Known). d.page_size) known, c.in_ok-delta.ensures.known.page_size)) (ap (λ (d : Known). d.name) known ∙ c.in_ok-delta.ensures.known.name ∙ c.delta-beside.ensures) (λ bytes. c.in_ok-read_owned.ensures.page bytes tells) in
    let read : c.deref.result.now ≡ c.read_owned.new.into = c.deref.ensures.value ∙ take_at c.read_owned.new.into _ c.in_ok-first.first.len (omega (arith, c.read_owned.auto.into, c.deref_mut-2.ensures.len)) in
    let forced = ap (λ (n : ℕ). not (n == 0)) (c.get-forced.ensures.value ∙ ap (number_in 64 1) (read ∙ page)) in
    read_attached name file.bytes c.in_ok-start.start is (old.files delta) c.in_ok-delta.delta answer _ old new file.is refl (still.files ∙ same) c.copied.ensures
    (ap (λ (d : Known). d.page_size) held ∙ c.in_ok-delta.ensures.known.page_size) refl forced (c.in_ok-count.ensures.count ∙ ap (λ (k : ℕ). max k (behind_entries c.in_ok-delta.delta.entries)) main_count) main_count (ap (λ (d : Known). d.entries) held) (ap (λ (d : Known). d.drafted) held ∙ c.in_ok-delta.ensures.known.none_waits)
    (durable_still kept new name _ still (subst (λ (x : File). IsDurable kept name x) (ap (λ (f : Files). f name) counted ∙ file.is) (c.in_ok-keep_files.ensures.main tells)))
    (λ some. durable_still kept new delta _ still (subst (λ (x : File). IsDurable kept delta x) (ap (λ (f : Files). f delta) counted) (subst (λ (n : List ℕ). IsDurable kept n ((g.H.Host.world c.count_with.new.host).files n)) c.delta-beside.ensures (c.in_ok-keep_files.ensures.delta tells some))))

pub returns-clause-reads : goal.returns-clause-reads
returns-clause-reads g c tells =
    let old : World = g.H.Host.world c.args.host.now in
    let name : List ℕ = c.args.name.now in
    let start = c.in_ok-start.start in
    let file = there name _ (c.in_ok-start.ensures.test tells) in
    let is = c.in_ok-start.ensures.start tells file.bytes file.is in
    let met = c.in_ok-delta.ensures.quiet.still.files ∙ c.in_ok-start.ensures.quiet.still.files in
    let size : length c.deref_mut.result.now ≡ start.page_size = omega (arith, c.deref_mut.ensures.len, c.in_ok-page.ensures.len) in
    let main_count = c.in_ok-main_count.ensures.length tells file.bytes (ap (λ (f : Files). f name) met ∙ file.is) is.formed (sym is.page_size ∙ sym size) (is.pages ∙ ap (λ (k : ℕ). start.pages * k) (sym size)) in
    let known = c.in_ok-count.ensures.same in
    let table = c.in_ok-delta.ensures.reads tells in
    let last = c.in_ok-main_count.ensures.reads tells in
    let made : (g.H.Host.world c.keep_files.new.host).reads ≡ (g.H.Host.world c.find_length.new.host).reads =
    c.in_ok-keep_files.ensures.reads ∙ ap (λ (h : _). (g.H.Host.world h).reads) c.in_ok-count.ensures.no_call in
    let held = c.in_ok-read_owned.ensures.same ∙ known in
    let entries = sym (ap (λ (d : Known). d.entries) held) in
    let table_held = subst (λ (es : List ℕ). (g.H.Host.world c.attach_delta.new.host).reads ≤ (g.H.Host.world c.read_start.new.host).reads + table_reads start.state start.page_size es) entries table in
    let opened =
    opened_reads (old.files name) file.bytes start c.read_owned.new.delta.page_size c.in_ok-main_count.main_count old.reads _ _ _ _ c.read_owned.new.delta.entries is c.in_ok-start.ensures.size file.is main_count c.in_ok-main_count.ensures.most (ap (λ (d : Known). d.page_size) held ∙ c.in_ok-delta.ensures.known.page_size)
    (c.in_ok-start.ensures.reads tells) table_held last made in
    omega (arith, opened, c.in_ok-read_owned.ensures.first_reads tells)

pub returns-in_err-read_owned-clause-quiet : goal.returns-in_err-read_owned-clause-quiet
returns-in_err-read_owned-clause-quiet g c =
    let old : World = g.H.Host.world c.args.host.now in
    let found = quiet_joined _ _ _ (quiet_joined _ _ _ c.in_ok-start.ensures.quiet c.in_ok-delta.ensures.quiet) c.in_ok-main_count.ensures.quiet in
    let counted = subst (λ (h : _). Quiet old (g.H.Host.world h)) (sym c.in_ok-count.ensures.no_call) found in
    quiet_joined _ _ _ (quiet_joined _ _ _ counted c.in_ok-keep_files.ensures.quiet) c.in_err-read_owned.ensures.quiet

pub returns-clause-quiet : goal.returns-clause-quiet
returns-clause-quiet g c =
    let old : World = g.H.Host.world c.args.host.now in
    let found = quiet_joined _ _ _ (quiet_joined _ _ _ c.in_ok-start.ensures.quiet c.in_ok-delta.ensures.quiet) c.in_ok-main_count.ensures.quiet in
    let counted = subst (λ (h : _). Quiet old (g.H.Host.world h)) (sym c.in_ok-count.ensures.no_call) found in
    quiet_joined _ _ _ (quiet_joined _ _ _ counted c.in_ok-keep_files.ensures.quiet) c.in_ok-read_owned.ensures.quiet

pub returns-clause-page : goal.returns-clause-page
returns-clause-page g c t tells opened =
    let kept : World = g.H.Host.world c.keep_files.new.host in
    let new : World = g.H.Host.world c.read_owned.new.host in
    let known = c.in_ok-count.ensures.same in
    let same = sym c.in_ok-read_owned.ensures.same in
    let shown = subst (λ (f : Files). ShowsIn c.args.name.now t.base f) c.in_ok-read_owned.ensures.quiet.still.files (subst (λ (n : List ℕ). ShowsIn n t.base new.files) c.copied.ensures opened.shows) in
    take_at c.read_owned.new.into _ c.in_ok-first.first.len (omega (arith, c.read_owned.auto.into, c.deref_mut-2.ensures.len))
    ∙ first_read kept.files c.args.name.now c.count_with.new.delta t.base c.read_owned.new.into _ shown (ap (λ (d : Known). d.page_size) same ∙ opened.agrees.page_size) (ap (λ (d : Known). d.entries) same ∙ opened.agrees.entries)
    (some_page t.base.image opened.agrees.header) (omega (arith, c.deref_mut-2.ensures.len, c.in_ok-first.ensures.len, ap (λ (d : Known). d.page_size) known, c.in_ok-delta.ensures.known.page_size))
    (ap (λ (d : Known). d.name) known ∙ c.in_ok-delta.ensures.known.name ∙ c.delta-beside.ensures) (λ bytes. c.in_ok-read_owned.ensures.page bytes tells)

pub returns-clause-durable : goal.returns-clause-durable
returns-clause-durable g c tells =
    let old : World = g.H.Host.world c.args.host.now in
    let name : List ℕ = c.args.name.now in
    let kept : World = g.H.Host.world c.keep_files.new.host in
    let new : World = g.H.Host.world c.read_owned.new.host in
    let counted = ap (λ (h : _). (g.H.Host.world h).files) c.in_ok-count.ensures.no_call ∙ c.in_ok-main_count.ensures.quiet.still.files ∙ c.in_ok-delta.ensures.quiet.still.files ∙ c.in_ok-start.ensures.quiet.still.files in
    let still = c.in_ok-read_owned.ensures.quiet.still in
    durable_file new name (old.files name) (ap (λ (f : Files). f name) (still.files ∙ c.in_ok-keep_files.ensures.quiet.still.files ∙ counted))
    (durable_still kept new name _ still (subst (λ (x : File). IsDurable kept name x) (ap (λ (f : Files). f name) counted) (c.in_ok-keep_files.ensures.main tells)))
