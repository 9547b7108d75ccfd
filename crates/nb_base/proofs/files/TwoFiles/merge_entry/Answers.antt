use Rattle.std.proofs.Common.{◌≡◌, ◌+◌, ◌*◌, ◌<◌, [], length, refl, sym, ap, subst, ◌∙◌, arith, slice_index, IsTrue}
use Rattle.nb_base.proofs.Common.{take_at, on_ok_weaker, Files, bytes_of, with_file, World, whole_on_ok, Known, image_in, delta_name, owned_page, Trail, Held, IsOpen, AreMerged, StrikesFirm, the_view, ok_equal}
use Rattle.nb_host.specs.Files.{with_page}
use Rattle.nb_base.specs.Merging.{PutsPage}
use Rattle.nb_base.proofs.AgreeLaws.{open_seen, seen_open}
use Rattle.nb_base.proofs.StrokeLaws.{h0}
use Rattle.nb_base.proofs.MergingLaws.{ReadsEntry, seen_still, struck_quiet, struck_joined, its_entry, its_place, merging, read_formed, read_size, its_hiding, merged_next}
use Rattle.nb_base.proofs.HiddenLaws.{struck_hidden, hidden_seen}
use Rattle.nb_base.specs.Stays.{KeepsFile, EndsWithin}
use Rattle.nb_base.proofs.Common.{Only, Touches}
use Rattle.nb_base.proofs.StaysLaws.{quiet_keeps, keeps_joined, keeps_from, page_within}
use Rattle.nb_base.proofs.TouchLaws.{quiet_touched, touched_joined, page_touched}
use Rattle.nb_base.proofs.files.TwoFiles.merge_entry.Goals as goal

-- The page of the entry was read, and is written.
module _ (g : _) (c : goal.After-write_page g) where
  size : c.self.inside.delta.page_size ≡ length c.deref_mut.result.now
  size = omega (arith, c.deref_mut.ensures.len, c.self.invariant.3)

  into : length c.read_owned.new.into ≡ c.self.inside.page.len
  into = omega (arith, c.read_owned.auto.into, c.deref_mut.ensures.len)

  long : length c.deref.result.now ≡ c.self.inside.delta.page_size
  long = omega (arith, c.deref.ensures.len, into, c.read_owned.auto.into, size)

  abbrev held_with : Known → Held
  held_with d = record { name = c.self.inside.name; page_size = d.page_size; state = c.self.inside.state; forced = c.self.inside.forced; count = c.self.inside.count; main_count = c.self.inside.main_count; entries = d.entries; drafted = d.drafted }

  -- what is held stays
  same : held_with c.self.inside.delta ≡ held_with c.read_owned.new.delta
  same = ap held_with (sym (c.in_ok-read_owned.ensures.same ∙ c.in_ok-number.ensures.same))

  module _ (t : Trail) (tells : IsTrue g.H.Host.tells) (given : IsOpen (g.H.Host.world c.args.host.now) c.args.self.now t) where
    is : IsOpen (g.H.Host.world c.entry.new._host) (the_view c.self.inside) t
    is = subst (λ (h : _). IsOpen (g.H.Host.world h) (the_view c.self.inside) t) (sym c.in_ok-number.ensures.no_call) (subst (λ (h : Held). IsOpen (g.H.Host.world c.args.host.now) h t) (sym c.self.view_is) given)

    entry : ReadsEntry (g.H.Host.world c.entry.new._host) (the_view c.self.inside) t c.args.k c.in_ok-number.number c.deref.result.now
    entry =
        let first : World = g.H.Host.world c.entry.new._host in
        let delta = bytes_of (first.files (delta_name c.self.inside.name)) in
        let known = c.in_ok-number.ensures.same in
        let main = (h0 first _ t is).has in
        let read = c.in_ok-read_owned.ensures.page main.bytes tells main.there (read_formed first _ t is) (read_size first _ t is ∙ size) (ap (λ (d : Known). d.name) known ∙ c.self.invariant.5) in
        record {
          is = is;
          merges = ap (λ (h : Held). h.state) c.self.view_is ∙ c.requires.merge;
          inside = omega (arith, c.requires.inside, ap (λ (h : Held). length h.entries) c.self.view_is);
          are = c.in_ok-number.ensures.apart;
          names = ok_equal _ _ c.in_ok-number.ensures.page;
          below = c.in_ok-number.ensures.below;
          long = long;
          owned = c.deref.ensures.value ∙ take_at c.read_owned.new.into _ c.self.inside.page.len into ∙ read
              ∙ ap (λ (d : Known). owned_page (length c.deref_mut.result.now) (image_in main.bytes) delta d.entries c.in_ok-number.number) known ∙ ap (λ n. owned_page n (image_in main.bytes) delta c.self.inside.delta.entries c.in_ok-number.number) (sym size);
        }

pub returns-clause-takes : goal.returns-clause-takes
returns-clause-takes g c t tells given =
    let first : World = g.H.Host.world c.entry.new._host in
    let mid : World = g.H.Host.world c.read_owned.new.host in
    let new : World = g.H.Host.world c.write_page.new.self in
    let name = c.self.inside.name in
    let number = c.in_ok-number.number in
    let page = c.deref.result.now in
    let open_ = is g c t tells given in
    let read = entry g c t tells given in
    let hides = its_hiding first _ t c.args.k number page read in
    let merges = merging first _ t c.args.k number page read in
    let at = its_entry first _ t c.args.k number page read in
    let quiet = c.in_ok-read_owned.ensures.quiet in
    let seen = seen_still first mid name t quiet.still (open_seen first _ t open_) in
    let hidden = struck_hidden t number page hides merges name c.args.k at mid new (g.met.H.Host.timely _) seen g.H.Host.tells c.write_page.result tells c.write_page.ensures.files c.write_page.ensures.log.said c.write_page.ensures.time in
    let joined = struck_joined first mid new name t (struck_quiet first mid name t quiet (open_seen first _ t open_)) hidden in
    record {
      left = subst (λ (h : Held). StrikesFirm (g.H.Host.world c.args.host.now) new h.name t []) c.self.view_is (subst (λ (h : _). StrikesFirm (g.H.Host.world h) new name t []) c.in_ok-number.ensures.no_call joined);
      done = on_ok_weaker c.write_page.result
          (λ put. subst (λ (h : Held). IsOpen new h t) (same g c) (seen_open new (the_view c.self.inside) t (hidden_seen t number page hides merges name c.args.k at mid new (g.met.H.Host.timely _) seen put hidden) open_.agrees open_.drafted))
          (whole_on_ok c.write_page.result _ _ _ (c.write_page.ensures.files.files tells));
    }

pub returns-clause-merged : goal.returns-clause-merged
returns-clause-merged g c t tells given so_far =
    let first : World = g.H.Host.world c.entry.new._host in
    let new : World = g.H.Host.world c.write_page.new.self in
    let page = c.deref.result.now in
    let put_on = λ (f : Files). with_file f c.self.inside.name (with_page (f c.self.inside.name) (c.in_ok-number.number * length page) page) in
    let before =
    subst (λ (h : _). AreMerged (g.H.Host.world h) (the_view c.self.inside) c.args.k) (sym c.in_ok-number.ensures.no_call) (subst (λ (h : Held). AreMerged (g.H.Host.world c.args.host.now) h c.args.k) (sym c.self.view_is) so_far) in
    on_ok_weaker c.write_page.result
    (λ put. subst (λ (h : Held). AreMerged new h (c.args.k + 1)) (same g c)
    (merged_next first _ t c.args.k c.in_ok-number.number page (entry g c t tells given) new.files (subst (λ (f : Files). new.files ≡ put_on f) c.in_ok-read_owned.ensures.quiet.still.files put) new refl before))
    (whole_on_ok c.write_page.result _ _ _ (c.write_page.ensures.files.files tells))

pub returns-clause-put : goal.returns-clause-put
returns-clause-put g c tells =
    let old : World = g.H.Host.world c.args.host.now in
    let new : World = g.H.Host.world c.write_page.new.self in
    let name = c.self.inside.name in
    let page = c.deref.result.now in
    let names = ok_equal _ _ c.in_ok-number.ensures.page in
    let still = c.in_ok-read_owned.ensures.quiet.still.files ∙ ap (λ h. (g.H.Host.world h).files) c.in_ok-number.ensures.no_call in
    let at = ap (λ n. n * length page) names ∙ ap (λ n. slice_index c.self.inside.delta.entries c.args.k * n) (long g c) in
    on_ok_weaker c.write_page.result
    (λ put. subst (λ (h : Held). PutsPage old.files new.files h.name h.page_size (slice_index h.entries c.args.k)) c.self.view_is
    (record {
      page = page;
      long = long g c;
      put = subst (λ (f : Files). new.files ≡ with_file f name (with_page (f name) (c.in_ok-number.number * length page) page)) still put ∙ ap (λ n. with_file old.files name (with_page (old.files name) n page)) at;
    }))
    (whole_on_ok c.write_page.result _ _ _ (c.write_page.ensures.files.files tells))

pub returns-in_err-read_owned-clause-within : goal.returns-in_err-read_owned-clause-within
returns-in_err-read_owned-clause-within g c t most tells given inside =
    keeps_from _ _ _ c.args.self.now.name _ (ap g.H.Host.world c.in_ok-number.ensures.no_call) (quiet_keeps (g.H.Host.world c.entry.new._host) _ c.args.self.now.name _ c.in_err-read_owned.ensures.quiet)

pub returns-clause-within : goal.returns-clause-within
returns-clause-within g c t most tells given inside =
    let mid : World = g.H.Host.world c.read_owned.new.host in
    let new : World = g.H.Host.world c.write_page.new.self in
    let name = c.self.inside.name in
    let lower : c.in_ok-number.number < most = omega (arith, its_place (g.H.Host.world c.entry.new._host) (the_view c.self.inside) t c.args.k c.in_ok-number.number c.deref.result.now (entry g c t tells given), inside) in
    subst (λ (h : Held). KeepsFile (g.H.Host.world c.args.host.now) new h.name (EndsWithin (most * h.page_size))) c.self.view_is
    (keeps_from _ _ new name _ (ap g.H.Host.world c.in_ok-number.ensures.no_call)
    (keeps_joined _ mid new name _ (quiet_keeps (g.H.Host.world c.entry.new._host) mid name _ c.in_ok-read_owned.ensures.quiet)
    (page_within g.H.Host.tells c.write_page.result mid new name c.in_ok-number.number most _ c.deref.result.now tells (g.met.H.Host.timely _) c.write_page.ensures.files c.write_page.ensures.time (long g c) lower)))

pub returns-in_err-read_owned-clause-touches : goal.returns-in_err-read_owned-clause-touches
returns-in_err-read_owned-clause-touches g c tells =
    subst (λ (h : _). Touches (g.H.Host.world h) (g.H.Host.world c.read_owned.new.host) (Only c.args.self.now.name)) c.in_ok-number.ensures.no_call (quiet_touched _ _ _ c.in_err-read_owned.ensures.quiet)

pub returns-clause-touches : goal.returns-clause-touches
returns-clause-touches g c tells =
    let mid : World = g.H.Host.world c.read_owned.new.host in
    let new : World = g.H.Host.world c.write_page.new.self in
    subst (λ (h : Held). Touches (g.H.Host.world c.args.host.now) new (Only h.name)) c.self.view_is
    (subst (λ (h : _). Touches (g.H.Host.world h) new (Only c.self.inside.name)) c.in_ok-number.ensures.no_call
    (touched_joined _ mid new _ (quiet_touched _ mid _ c.in_ok-read_owned.ensures.quiet)
    (page_touched g.H.Host.tells c.write_page.result mid new c.self.inside.name _ c.deref.result.now tells (g.met.H.Host.timely _) c.write_page.ensures.files c.write_page.ensures.log.said c.write_page.ensures.time)))
