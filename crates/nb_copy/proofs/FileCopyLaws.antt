-- A copy of the frozen file begins, and its turns.
use Rattle.std.proofs.Common.{◌≡◌, ⊎_elim, inl, inr, ℕ, ◌≤◌, List, [], ◌∷◌, ◌++◌, length, replicate, refl, sym, ap, subst, ◌∙◌, arith, length-append, Result, Ok, Err, Some, None}
use Rattle.nb_copy.proofs.Common.{size_of, state_of, most_pages, stalled_state, File, World, Leaves, Fault, Device, Memory, HostFault, Refusal, Changes, Only, Remade, GaveNothing, remade_weaker, Quiet, Base, copy_turn, Cause, Page, Image, image_size, image_state, joined, Copies, ClosesCopy, Outcome, Seen, unless, delta_name, IsOfSize, Trail, IsLaid, some_page, OfFiles, Tested, Held, IsOpen, name_of, Progress, Copying, CopiesFile, StartsCopy, copy_cause, IsBlank, IsFreeOr, IsUnfinishedOr, CopyTurn, remade_twice, blank_free, all_front}
use Rattle.nb_host.specs.declared.faults.Fault.TheVariants.{Refused}
use Rattle.nb_model.specs.declared.reply.Reply.TheVariants.{Refused as RefusedBy}
use Rattle.nb_base.proofs.OwnedLaws.{Holds, holds, base-state, base-size}
use Rattle.nb_copy.proofs.ClosingLaws.{open_other}

-- what is frozen of a database that is open has a page at least, and no more than a database, each of the size of a page
pub record IsFrozenOf (size : ℕ) (frozen : Image) : Type 0 where
  pub least : 1 ≤ length frozen
  pub most : length frozen ≤ most_pages
  pub sizes : IsOfSize size frozen

laid_parts : (size : ℕ) (main : Image) (bytes : List ℕ) → IsLaid main bytes → image_size main ≡ size → IsFrozenOf size main
laid_parts size main bytes laid same = record {
  least = some_page main laid.header;
  most = omega (arith, laid.most, length-append main laid.rest);
  sizes = subst (λ (n : ℕ). IsOfSize n main) same (all_front (λ (page : Page). length page ≡ image_size main) main laid.rest laid.sizes);
}

pub frozen_parts : (w : World) (held : Held) (t : Trail) → IsOpen w held t → held.files.state ≡ stalled_state → IsFrozenOf held.files.page_size t.base.frozen
frozen_parts w held t is stalled =
    let b : Base = is.files.sees.base in
    let m : File = w.files (name_of held) in
    let d : File = w.files (delta_name (name_of held)) in
    let h : Holds b m d = holds (name_of held) b m d is.files.files.shows in
    let state : image_state h.main ≡ stalled_state = sym (base-state b m d h) ∙ ap state_of is.files.waits.behind.first ∙ sym is.files.agrees.state ∙ stalled in
    let size : image_size h.main ≡ held.files.page_size = sym (base-size b m d h) ∙ ap size_of is.files.waits.behind.first ∙ sym is.files.agrees.page_size in
    subst (IsFrozenOf held.files.page_size) (sym (h.frozen.stalled state) ∙ is.files.waits.behind.frozen) (laid_parts held.files.page_size h.main h.has.bytes h.has.laid size)

-- a copy that begins
abbrev copying : Seen → (session : ℕ) (name : List ℕ) → Outcome
copying s session name = record { strokes = []; reply = None; next = replicate (length s.base.frozen) Copies ++ ClosesCopy name ∷ []; running = Some session; made = None; given = s.given }

turn_is : (s : Seen) (session : ℕ) (name : List ℕ) → copy_turn s session name ≡ unless s (copy_cause s name) (copying s session name)
unfolding copy_turn
turn_is s session name = refl

begun_is : (s : Seen) (session : ℕ) (name : List ℕ) → copy_cause s name ≡ None → copy_turn s session name ≡ copying s session name
unfolding unless
begun_is s session name none = turn_is s session name ∙ ap (λ (c : Cause). unless s c (copying s session name)) none

refused_reply : (s : Seen) (session : ℕ) (name : List ℕ) (r : Refusal) → copy_cause s name ≡ Some r → (copy_turn s session name).reply ≡ Some (RefusedBy r)
unfolding unless
refused_reply s session name r some = ap (λ (o : Outcome). o.reply) (turn_is s session name ∙ ap (λ (c : Cause). unless s c (copying s session name)) some)

refused_running : (s : Seen) (session : ℕ) (name : List ℕ) (r : Refusal) → copy_cause s name ≡ Some r → (copy_turn s session name).running ≡ s.running
unfolding unless
refused_running s session name r some = ap (λ (o : Outcome). o.running) (turn_is s session name ∙ ap (λ (c : Cause). unless s c (copying s session name)) some)

-- The start of a copy.
module _ (old new : World) (a b : Held) (t : Trail) (s : Seen) (session : ℕ) (name : List ℕ) (quiet : Quiet old new) (runs : a.running ≡ s.running) where
  pub copy_failed : (fault : Fault) → Tested {T = Copying} (Err fault) (copy_cause s name) → b ≡ a → StartsCopy (Err fault) old new a b t name (copy_turn s session name)
  copy_failed (Refused r) test same = record {
    says = refused_reply s session name r test;
    quiet = quiet;
    held = same ∙ ap (λ x. record a { running = x }) (runs ∙ sym (refused_running s session name r test));
    started = tt;
  }
  copy_failed Device test same = record { says = tt; quiet = quiet; held = tt; started = tt }
  copy_failed Memory test same = record { says = tt; quiet = quiet; held = tt; started = tt }

  pub copy_begun : (copy : Copying) → copy_cause s name ≡ None → t.base ≡ s.base → IsOpen old a t → a.files.state ≡ stalled_state → b ≡ record a { running = Some session } → copy.name ≡ name → copy.next ≡ 0 → copy.count ≡ a.files.main_count → copy.size ≡ a.files.page_size
      → StartsCopy (Ok copy) old new a b t name (copy_turn s session name)
  copy_begun copy none base is stalled same named first count size =
      let o = begun_is s session name none in
      let parts = frozen_parts old a t is stalled in
      let long : copy.count ≡ length t.base.frozen = count ∙ is.files.agrees.main_count stalled in
      record {
        says = ap (λ (x : Outcome). x.reply) o;
        quiet = quiet;
        held = same ∙ ap (λ x. record a { running = x }) (sym (ap (λ (x : Outcome). x.running) o));
        started = record {
          turns = ap (λ (x : Outcome). x.next) o ∙ ap (λ (n : ℕ). replicate n Copies ++ ClosesCopy name ∷ []) (sym (long ∙ ap (λ (x : Base). length x.frozen) base));
          first = first;
          named = named;
          stalled = ap (λ (h : Held). h.files.state) same ∙ stalled;
          goes = record {
            of = record { long = sym long; least = parts.least; most = parts.most; sizes = subst (λ (n : ℕ). IsOfSize n t.base.frozen) (sym size) parts.sizes };
            begun = λ some. absurd (omega (arith, some, first));
          };
        };
      }

-- The file is made, and a page is dealt with.
module _ (name whole : List ℕ) where
  pub made_free : (old new : World) → Changes old new (Only name) (Remade old name IsBlank) → Changes old new (Only name) (Remade old name (IsFreeOr whole))
  made_free old new made = remade_weaker old new (Only name) name IsBlank (IsFreeOr whole) made (λ f blank. inl (blank_free f blank))

  pub made_then : (old mid new : World) → Leaves mid name (mid.files name) → Changes old mid (Only name) (Remade old name IsBlank) → Changes mid new (Only name) (Remade mid name (IsFreeOr whole)) → Changes old new (Only name) (Remade old name (IsFreeOr whole))
  made_then old mid new reads made turn = remade_twice old mid new name (IsFreeOr whole) reads (made_free old mid made) turn

-- A turn of it, by what its file is.
pub copies_file : (result : Result Progress HostFault) (old new : World) (a b : Held) (copy later : Copying) (t : Trail) → IsOpen old a t → a.files.state ≡ stalled_state → (OfFiles (name_of a) copy.name → ⊥) → Leaves old copy.name (old.files copy.name) → b ≡ a
    → Changes old new (Only copy.name) (Remade old copy.name (IsFreeOr (joined t.base.frozen))) → GaveNothing old new → CopyTurn result new copy later t.base.frozen → CopiesFile result old new a b copy later t
copies_file result old new a b copy later t is stalled apart reads same changes gave answer =
    let whole : List ℕ = joined t.base.frozen in
    let file : Changes old new (Only copy.name) (Remade old copy.name (IsUnfinishedOr whole)) = remade_weaker old new (Only copy.name) copy.name (IsFreeOr whole) (IsUnfinishedOr whole) changes (λ f. ⊎_elim (λ free. inl (inl free)) inr) in
    record {
      left = file;
      same = same;
      opened = subst (λ (h : Held). IsOpen new h t) (sym same) (open_other old a t is copy.name whole apart reads new file stalled);
      gave = gave;
      answer = answer;
    }
