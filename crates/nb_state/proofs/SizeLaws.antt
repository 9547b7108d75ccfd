-- Each page of a database that is open has the size of a page.
use Rattle.nb_state.proofs.Common.{World, image_size, Trail, Held, IsOpen, pair_of}
use Rattle.nb_model.specs.Sound.{IsOfSize}
use Rattle.nb_owner.proofs.SizeLaws.{open_sized as pair_sized}

pub open_sized : (w : World) (held : Held) (t : Trail) → IsOpen w held t → IsOfSize (image_size t.base.image) t.base.image
open_sized w held t is = pair_sized w (pair_of held) t is.files
