-- A database is created or opened, as it is held.
use Rattle.std.proofs.Common.{◌≡◌, ℕ, ◌*◌, ◌<◌, List, [], length, subst, replicate, refl, sym, ap, ◌∙◌, arith, Bool, false, not, ◌==◌, None, Ok}
use Rattle.nb_state.proofs.Common.{number_in, scn_of, guid_of, World, Trail, settled, Page, Image, first_page, base_of, NoneWaits, Pages, AreOf, open_settled, Held, IsOpen}
use Rattle.nb_fields.specs.Fresh.{fresh}
use Rattle.nb_model.proofs.FreshImageLaws.{fresh_first, fresh_state, fresh_scn, fresh_open}
use Rattle.nb_base.specs.Beginnings.{Creates as CreatesFiles, IsAttached as AreAttached}
use Rattle.nb_base.specs.Open.{IsOpen as FilesOpen}
use Rattle.nb_base.specs.Stays.{FileIs, EndsWithin}
use Rattle.nb_owner.specs.Open.{IsOpen as PairOpen}
use Rattle.nb_state.specs.Beginnings.{IsAttached, Creates}
use Rattle.nb_model.proofs.FreshSound.{header_guid}

-- where no page is in memory, each is of the image
of_none : (image : Image) (pages : Pages) → pages ≡ [] → AreOf image pages
of_none image pages none = subst (λ (ps : Pages). AreOf image ps) (sym none) tt

-- and none waits
none_wait : (pages : Pages) → pages ≡ [] → NoneWaits pages
none_wait pages none = subst NoneWaits (sym none) tt

pub created : (pair : Rattle.nb_owner.specs.Open.Held) (old new : World) (name : List ℕ) (size raw : ℕ) → CreatesFiles (Ok pair.files) old new name (fresh size raw) → pair.pages ≡ []
    → pair.files.page_size ≡ size → FileIs new name (EndsWithin (length (fresh size raw) * size))
    → Creates (Ok (record { files = pair.files; scn = 1; guid = replicate 16 0; read_only = false; running = None; merged = 0; pages = pair.pages; cap = pair.cap })) old new name (fresh size raw)
created pair old new name size raw is none sized within =
    let open_ = is.answer.2 in
    let normal = open_.agrees.state ∙ fresh_state size raw in
    record {
      answer = record {
        was_free = is.answer.0;
        named = is.answer.1;
        nothing_runs = refl;
        opened = record {
          files = open_settled new pair (settled (base_of (fresh size raw))) (none_wait pair.pages none) open_ (of_none (fresh size raw) pair.pages none);
          agrees = record {
            scn = sym (fresh_scn size raw);
            four = omega arith;
            guid = sym (ap guid_of (fresh_first size raw) ∙ header_guid size raw);
            read_only = sym (fresh_open size raw);
          };
          merged = λ two. absurd (omega (arith, two, normal));
          most = λ two. omega arith;
        };
        long = subst (λ (n : ℕ). FileIs new name (EndsWithin (length (fresh size raw) * n))) (sym sized) within;
      };
      left = is.left;
      reads = is.reads;
      gave = is.gave;
      taken = is.taken;
    }

-- What opens of the files as they were read is the database that they were.
pub attached : (held : Held) (pair : Rattle.nb_owner.specs.Open.Held) (old new : World) (name : List ℕ) → AreAttached pair.files old new name → pair.pages ≡ [] → FileIs new name (λ file. file ≡ old.files name) → held.files ≡ pair.files → held.running ≡ None
    → ((t : Trail) → FilesOpen new pair.files t → PairOpen new pair t → IsOpen new held t) → IsAttached held old new name
attached held pair old new name is blank durable same none opens = record {
  base = is.base;
  stands = is.stands;
  named = ap (λ (f : Rattle.nb_base.specs.Open.Held). f.name) same ∙ is.named;
  nothing_runs = none;
  opened = opens (settled is.base) is.opened (open_settled new pair (settled is.base) (none_wait pair.pages blank) is.opened (of_none is.base.image pair.pages blank));
  durable = durable;
}

-- What is held of page 0 as it was read.
pub open_read : (w : World) (pair : Rattle.nb_owner.specs.Open.Held) (t : Trail) (bytes : Page) → PairOpen w pair t → bytes ≡ first_page t.base.image → (scn : ℕ) (guid : List ℕ) (read_only : Bool) → scn < 4294967296
    → scn ≡ scn_of bytes → guid ≡ guid_of bytes → read_only ≡ not (number_in 65 1 bytes == 0)
    → IsOpen w (record { files = pair.files; scn = scn; guid = guid; read_only = read_only; running = None; merged = 0; pages = pair.pages; cap = pair.cap }) t
open_read w pair t bytes is first scn guid read_only four scn_is guid_is access_is = record {
  files = is;
  agrees = record {
    scn = scn_is ∙ ap scn_of first;
    four = four;
    guid = guid_is ∙ ap guid_of first;
    read_only = access_is ∙ ap (λ (x : Page). not (number_in 65 1 x == 0)) first;
  };
  merged = λ two j none inside. absurd (omega (arith, none));
  most = λ two. omega arith;
}
