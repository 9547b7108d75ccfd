use Rattle.std.proofs.Common.{◌≡◌, ℕ, ◌+◌, ◌*◌, ◌≤◌, List, length, drop, sym, ap, subst, ◌∙◌, arith, Err, max}
use Rattle.nb_chain.proofs.Common.{Fault, Files, Chain, RefusedReads, chain_most, check_most, is_blank, without_blank, CheckSays, IsChain, IsFirstOf, LevelsSay, AreNext, passed}
use Rattle.nb_chain.proofs.LinkLaws.{split}
use Rattle.nb_chain.proofs.CheckLaws.{check_first, check_others, check_all, check_within}
use Rattle.nb_chain.proofs.MostLaws.{chain_first, chain_levels, refused_within}
use Rattle.nb_chain.proofs.checking.check.Goals as goal

pub returns-in_err-first-clause-answer : goal.returns-in_err-first-clause-answer
returns-in_err-first-clause-answer g c tells =
    let files : Files = (g.H.Host.world c.args.host.now).files in
    let before : ℕ = (g.H.Host.world c.args.host.now).reads in
    let after : ℕ = (g.H.Host.world c.read_first.new.host).reads in
    let name : List ℕ = c.index-files-0.result in
    let names : List (List ℕ) = c.args.files.now in
    passed Chain (λ r. CheckSays files names before after r) c.from_residual.result c.in_err-first.field-0.0 c.from_residual.ensures
    (subst (λ (l : List (List ℕ)). CheckSays files l before after (Err c.in_err-first.field-0.0)) (sym (split names name c.requires.some c.index-files-0.is))
    (check_first files name (drop 1 names) before after c.in_err-first.field-0.0 (c.in_err-first.ensures.answer tells)))

pub returns-in_err-last-clause-answer : goal.returns-in_err-last-clause-answer
returns-in_err-last-clause-answer g c tells =
    let files : Files = (g.H.Host.world c.args.host.now).files in
    let before : ℕ = (g.H.Host.world c.args.host.now).reads in
    let middle : ℕ = (g.H.Host.world c.read_first.new.host).reads in
    let after : ℕ = (g.H.Host.world c.read_levels.new.host).reads in
    let name : List ℕ = c.index-files-0.result in
    let names : List (List ℕ) = c.args.files.now in
    let fault : Fault = c.in_err-last.field-0.0 in
    let is = c.in_ok-first.ensures.answer tells in
    let says = subst (λ (f : Files). LevelsSay f c.first_tip-tip.result (drop 1 names) c.new-overlay.result c.read_levels.new.overlay middle after (Err fault)) c.read_first.ensures.quiet.still.files (c.in_err-last.ensures.answer tells) in
    passed Chain (λ r. CheckSays files names before after r) c.from_residual-in_err-last.result fault c.from_residual-in_err-last.ensures
    (subst (λ (l : List (List ℕ)). CheckSays files l before after (Err fault)) (sym (split names name c.requires.some c.index-files-0.is))
    (check_others files name (drop 1 names) is.0 c.in_ok-first.first c.first_tip-tip.result is.1 is.2 c.first_tip-tip.ensures.value c.new-overlay.result c.read_levels.new.overlay middle after before after fault says))

pub returns-clause-answer : goal.returns-clause-answer
returns-clause-answer g c tells =
    let files : Files = (g.H.Host.world c.args.host.now).files in
    let before : ℕ = (g.H.Host.world c.args.host.now).reads in
    let middle : ℕ = (g.H.Host.world c.read_first.new.host).reads in
    let reads : ℕ = (g.H.Host.world c.read_levels.new.host).reads in
    let after : ℕ = (g.H.Host.world c.count_pages.new.host).reads in
    let name : List ℕ = c.index-files-0.result in
    let names : List (List ℕ) = c.args.files.now in
    let is = c.in_ok-first.ensures.answer tells in
    let next = subst (λ (f : Files). AreNext f c.first_tip-tip.result (drop 1 names) c.new-overlay.result c.read_levels.new.overlay middle reads c.in_ok-last.last) c.read_first.ensures.quiet.still.files (c.in_ok-last.ensures.answer tells) in
    let size : length c.deref_mut.result.now ≡ c.in_ok-first.first.header.page_size = omega (arith, ap length c.deref_mut.ensures.value, c.in_ok-page.ensures.len) in
    let there = ap (λ (f : Files). f name) (c.read_levels.ensures.quiet.still.files ∙ c.read_first.ensures.quiet.still.files) ∙ is.1 in
    let pages = ap (λ (k : ℕ). c.in_ok-first.first.pages * k) size in
    let long = is.2.pages in
    let counted = c.in_ok-count.ensures.answer tells is.0 there (omega (arith, pages, long)) in
    let all = check_all files name (drop 1 names) is.0 c.in_ok-first.first c.first_tip-tip.result is.1 is.2 c.first_tip-tip.ensures.value c.in_ok-first.ensures.form _ _ c.new-overlay.ensures before middle reads after c.in_ok-last.last next
    c.in_ok-count.count
    (counted ∙ ap (λ (k : ℕ). without_blank (is_blank is.0 k c.in_ok-first.first.pages c.read_levels.new.overlay) (max c.in_ok-first.first.pages (length c.read_levels.new.overlay))) size) (c.in_ok-first.ensures.reads tells) (c.in_ok-count.ensures.reads tells) in
    subst (λ (l : List (List ℕ)). IsChain files l before after (record { first = c.in_ok-first.first; page_size = c.in_ok-last.last.page_size; count = c.in_ok-count.count; guid = c.in_ok-last.last.guid; scn = c.in_ok-last.last.scn })) (sym (split names name c.requires.some c.index-files-0.is)) all

pub returns-clause-first : goal.returns-clause-first
returns-clause-first g c tells =
    let name : List ℕ = c.index-files-0.result in
    subst (λ (l : List (List ℕ)). IsFirstOf (g.H.Host.world c.args.host.now).files l c.in_ok-first.first) (sym (split c.args.files.now name c.requires.some c.index-files-0.is)) (c.in_ok-first.ensures.answer tells)

pub returns-in_err-first-clause-refused : goal.returns-in_err-first-clause-refused
returns-in_err-first-clause-refused g c tells =
    let files : Files = (g.H.Host.world c.args.host.now).files in
    let before : ℕ = (g.H.Host.world c.args.host.now).reads in
    let after : ℕ = (g.H.Host.world c.read_first.new.host).reads in
    passed Chain (λ r. RefusedReads r before (chain_most files c.args.files.now) after) c.from_residual.result c.in_err-first.field-0.0 c.from_residual.ensures
    (refused_within Chain _ _ _ _ (chain_first files c.args.files.now c.index-files-0.result (drop 1 c.args.files.now) before after (split c.args.files.now c.index-files-0.result c.requires.some c.index-files-0.is) (c.read_first.ensures.within tells)))

pub returns-in_err-last-clause-refused : goal.returns-in_err-last-clause-refused
returns-in_err-last-clause-refused g c tells =
    let files : Files = (g.H.Host.world c.args.host.now).files in
    let before : ℕ = (g.H.Host.world c.args.host.now).reads in
    let after : ℕ = (g.H.Host.world c.read_levels.new.host).reads in
    passed Chain (λ r. RefusedReads r before (chain_most files c.args.files.now) after) c.from_residual-in_err-last.result c.in_err-last.field-0.0 c.from_residual-in_err-last.ensures
    (refused_within Chain _ _ _ _ (chain_levels files _ c.args.files.now c.index-files-0.result (drop 1 c.args.files.now) before _ after (split c.args.files.now c.index-files-0.result c.requires.some c.index-files-0.is) c.read_first.ensures.quiet.still.files
    (c.in_ok-first.ensures.reads tells) (c.read_levels.ensures.within tells)))

pub returns-in_err-count-clause-within : goal.returns-in_err-count-clause-within
returns-in_err-count-clause-within g c tells =
    let files : Files = (g.H.Host.world c.args.host.now).files in
    let before : ℕ = (g.H.Host.world c.args.host.now).reads in
    let middle : ℕ = (g.H.Host.world c.read_first.new.host).reads in
    let reads : ℕ = (g.H.Host.world c.read_levels.new.host).reads in
    let after : ℕ = (g.H.Host.world c.count_pages.new.host).reads in
    let name : List ℕ = c.index-files-0.result in
    let names : List (List ℕ) = c.args.files.now in
    let named = split names name c.requires.some c.index-files-0.is in
    let is = c.in_ok-first.ensures.answer tells in
    let next = subst (λ (f : Files). AreNext f c.first_tip-tip.result (drop 1 names) c.new-overlay.result c.read_levels.new.overlay middle reads c.in_ok-last.last) c.read_first.ensures.quiet.still.files (c.in_ok-last.ensures.answer tells) in
    let size : length c.deref_mut.result.now ≡ c.in_ok-first.first.header.page_size = omega (arith, ap length c.deref_mut.ensures.value, c.in_ok-page.ensures.len) in
    let there = ap (λ (f : Files). f name) (c.read_levels.ensures.quiet.still.files ∙ c.read_first.ensures.quiet.still.files) ∙ is.1 in
    let pages = ap (λ (k : ℕ). c.in_ok-first.first.pages * k) size in
    let long = is.2.pages in
    let levels = chain_levels files _ names name (drop 1 names) before _ reads named c.read_first.ensures.quiet.still.files (c.in_ok-first.ensures.reads tells) (c.read_levels.ensures.within tells) in
    let counted = c.count_pages.ensures.within tells is.0 there (omega (arith, pages, long)) in
    let ended = subst (λ (k : ℕ). after + without_blank (is_blank is.0 k c.in_ok-first.first.pages c.read_levels.new.overlay) (max c.in_ok-first.first.pages (length c.read_levels.new.overlay)) ≤ reads + max c.in_ok-first.first.pages (length c.read_levels.new.overlay) + 1) size counted in
    subst (λ (l : List (List ℕ)). after ≤ before + check_most files l) (sym named)
    (check_within files name (drop 1 names) is.0 c.in_ok-first.first c.first_tip-tip.result is.1 is.2 c.first_tip-tip.ensures.value c.in_ok-first.ensures.form _ _ c.new-overlay.ensures before middle reads after c.in_ok-last.last next
    (subst (λ (l : List (List ℕ)). reads ≤ before + chain_most files l) named levels) ended)

pub returns-clause-within : goal.returns-clause-within
returns-clause-within g c tells =
    let files : Files = (g.H.Host.world c.args.host.now).files in
    let before : ℕ = (g.H.Host.world c.args.host.now).reads in
    let middle : ℕ = (g.H.Host.world c.read_first.new.host).reads in
    let reads : ℕ = (g.H.Host.world c.read_levels.new.host).reads in
    let after : ℕ = (g.H.Host.world c.count_pages.new.host).reads in
    let name : List ℕ = c.index-files-0.result in
    let names : List (List ℕ) = c.args.files.now in
    let named = split names name c.requires.some c.index-files-0.is in
    let is = c.in_ok-first.ensures.answer tells in
    let next = subst (λ (f : Files). AreNext f c.first_tip-tip.result (drop 1 names) c.new-overlay.result c.read_levels.new.overlay middle reads c.in_ok-last.last) c.read_first.ensures.quiet.still.files (c.in_ok-last.ensures.answer tells) in
    let size : length c.deref_mut.result.now ≡ c.in_ok-first.first.header.page_size = omega (arith, ap length c.deref_mut.ensures.value, c.in_ok-page.ensures.len) in
    let there = ap (λ (f : Files). f name) (c.read_levels.ensures.quiet.still.files ∙ c.read_first.ensures.quiet.still.files) ∙ is.1 in
    let pages = ap (λ (k : ℕ). c.in_ok-first.first.pages * k) size in
    let long = is.2.pages in
    let levels = chain_levels files _ names name (drop 1 names) before _ reads named c.read_first.ensures.quiet.still.files (c.in_ok-first.ensures.reads tells) (c.read_levels.ensures.within tells) in
    let counted = c.count_pages.ensures.within tells is.0 there (omega (arith, pages, long)) in
    let ended = subst (λ (k : ℕ). after + without_blank (is_blank is.0 k c.in_ok-first.first.pages c.read_levels.new.overlay) (max c.in_ok-first.first.pages (length c.read_levels.new.overlay)) ≤ reads + max c.in_ok-first.first.pages (length c.read_levels.new.overlay) + 1) size counted in
    subst (λ (l : List (List ℕ)). after ≤ before + check_most files l) (sym named)
    (check_within files name (drop 1 names) is.0 c.in_ok-first.first c.first_tip-tip.result is.1 is.2 c.first_tip-tip.ensures.value c.in_ok-first.ensures.form _ _ c.new-overlay.ensures before middle reads after c.in_ok-last.last next
    (subst (λ (l : List (List ℕ)). reads ≤ before + chain_most files l) named levels) ended)
