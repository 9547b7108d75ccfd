use Rattle.nb_lines.proofs.line.push_shown.Goals as goal

pub returns-in-HeaderShown : goal.returns-in-HeaderShown
returns-in-HeaderShown c = rw c.in-HeaderShown.is c.push_ok.ensures

pub returns-in-PagesShown : goal.returns-in-PagesShown
returns-in-PagesShown c = rw c.in-PagesShown.is c.push_ok-in-PagesShown.ensures

pub returns-in-ImageShown : goal.returns-in-ImageShown
returns-in-ImageShown c = rw c.in-ImageShown.is c.push_ok-in-ImageShown.ensures

pub returns-in-CacheShown : goal.returns-in-CacheShown
returns-in-CacheShown c = rw c.in-CacheShown.is c.push_two.ensures
