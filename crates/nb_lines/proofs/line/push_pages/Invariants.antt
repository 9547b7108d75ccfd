use Rattle.std.proofs.Common.{◌≡◌, ◌++◌, take}
use Rattle.nb_lines.proofs.Common.{spaced, page_words}
use Rattle.nb_lines.proofs.line.push_pages.Given as goal

abbrev pub invariant-loop-page : goal.invariant-loop-page
invariant-loop-page l = l.line.items ≡ l.initial.line.items ++ spaced (page_words (take l.page-index l.pages))
