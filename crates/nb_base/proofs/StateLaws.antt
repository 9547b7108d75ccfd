-- What the control strokes make of the two files of a database.
use Rattle.std.proofs.Common.{◌≡◌, ℕ, ◌+◌, ◌≤◌, List, [], length, refl, sym, ap, subst, ◌∙◌, arith, Option, Some, None}
use Rattle.nb_base.proofs.Common.{part, size_of, state_of, length-part, part-take, normal_state, stalled_state, merge_state, File, bytes_of, HasTable, Image, first_page, image_size, image_state, image_scn, image_guid, is_forced, trimmed, Ask, Base, controlled, with_control, begin, ends, finish, on_base, owned, header-long, same-number, some_page, finish_base, control_size, control_state, next_scn, next_guid, in_state, HasImage, Held, Agrees}
use Rattle.nb_base.proofs.ControlLaws.{with_control-first, with_control-length, owned-control}
use Rattle.nb_base.proofs.BlockLaws.{to_main}
use Rattle.nb_base.proofs.OwnedLaws.{Holds, owned-alone, main-some, main-long, base-front, base-header, base-state, base-size}
use Rattle.nb_base.proofs.WrittenLaws.{HasMain}

-- another file with the same image
abbrev pub same_main : (b : Base) (m d c : File) (h : Holds b m d) → HasMain h.main c → Holds b c d
same_main b m d c h has = record { main = h.main; has = has; opened = h.opened; entries = h.entries; image = h.image; frozen = h.frozen }

-- in the normal state the image is the main file's
pub normal_image : (b : Base) (m d : File) (h : Holds b m d) → image_state h.main ≡ normal_state → b.image ≡ h.main
normal_image b m d h normal =
    h.image ∙ ap (λ (t : List ℕ). owned (image_size h.main) h.main (bytes_of d) t) (h.entries.none normal) ∙ sym (owned-alone (image_size h.main) h.main (bytes_of d))

-- what is held agrees with what the files hold
pub agrees_by : (held : Held) (b : Base) (m d : File) (h : Holds b m d) → held.page_size ≡ image_size h.main → held.state ≡ image_state h.main → held.forced ≡ is_forced b.image → held.count ≡ length b.image → (held.state ≡ stalled_state → held.main_count ≡ length h.main) → held.entries ≡ b.diverted
    → Agrees held b
agrees_by held b m d h sized stated forced count main_count entries = record {
  header = base-header b m d h;
  page_size = sized ∙ sym (base-size b m d h);
  state = stated ∙ sym (base-state b m d h);
  opened = omega (arith, stated, h.opened);
  forced = forced;
  count = count;
  main_count = λ stalled. main_count stalled ∙ ap length (sym (h.frozen.stalled (sym stated ∙ stalled)));
  entries = entries;
}

-- A main file's image in another state.
module _ (image : Image) (m : File) (has : HasMain image m) (state : ℕ) (guid : Option (List ℕ)) (low : state ≤ 3) (sixteen : length (next_guid guid (image_guid image)) ≡ 16) where
  long : 64 ≤ length (first_page image)
  long = header-long (first_page image) has.laid.header

  first : first_page (in_state state guid image) ≡ controlled state (next_scn state (image_scn image)) (next_guid guid (image_guid image)) (first_page image)
  first = with_control-first state (next_scn state (image_scn image)) (next_guid guid (image_guid image)) image (some_page image has.laid.header)

  pub in_state-state : image_state (in_state state guid image) ≡ state
  in_state-state = ap state_of first ∙ control_state state (next_scn state (image_scn image)) (next_guid guid (image_guid image)) (first_page image) long sixteen (omega (arith, low))

  pub in_state-size : image_size (in_state state guid image) ≡ image_size image
  in_state-size = ap size_of first ∙ control_size state (next_scn state (image_scn image)) (next_guid guid (image_guid image)) (first_page image) long sixteen

  pub in_state-length : length (in_state state guid image) ≡ length image
  in_state-length = with_control-length state (next_scn state (image_scn image)) (next_guid guid (image_guid image)) image

-- the GUID that stands has sixteen bytes
pub kept_sixteen : (image : Image) (m : File) → HasMain image m → length (image_guid image) ≡ 16
kept_sixteen image m has = let far = header-long (first_page image) has.laid.header in length-part 32 16 (first_page image) (omega (arith, far))

-- The strokes as they compute.
begin-base : (guid : List ℕ) (ask : Option Ask) (b : Base) → on_base (begin guid ask) b ≡ record { image = in_state stalled_state (Some guid) b.image; frozen = in_state stalled_state (Some guid) b.image; diverted = [] }
unfolding on_base
begin-base guid ask b = refl

ends-base : (b : Base) → on_base ends b ≡ record b { image = in_state merge_state None b.image; frozen = [] }
unfolding on_base
ends-base b = refl

module _ (b : Base) (m d : File) (h : Holds b m d) where
  -- the control block is the main file's
  scn_same : image_scn b.image ≡ image_scn h.main
  scn_same = same-number (first_page b.image) (first_page h.main) (base-front b m d h) 28 4 (omega arith)

  guid_same : image_guid b.image ≡ image_guid h.main
  guid_same = sym (part-take 64 32 16 (first_page b.image) (omega arith)) ∙ ap (part 32 16) (base-front b m d h) ∙ part-take 64 32 16 (first_page h.main) (omega arith)

  -- A backup begins: the main file is frozen, and the difference file is empty.
  module _ (guid : List ℕ) (ask : Option Ask) (sixteen : length guid ≡ 16) (normal : image_state h.main ≡ normal_state) (c e : File) (put : HasImage (in_state stalled_state (Some guid) h.main) c) (empty : HasTable (image_size h.main) e []) where
    abbrev now : Image
    now = in_state stalled_state (Some guid) h.main

    stalled : image_state (in_state stalled_state (Some guid) h.main) ≡ stalled_state
    stalled = in_state-state h.main m h.has 1 (Some guid) (omega arith) sixteen

    pub begun_holds : Holds (on_base (begin guid ask) b) c e
    begun_holds =
        let same : on_base (begin guid ask) b ≡ record { image = now; frozen = now; diverted = [] } = begin-base guid ask b ∙ ap (λ (x : Image). record { image = in_state stalled_state (Some guid) x; frozen = in_state stalled_state (Some guid) x; diverted = [] }) (normal_image b m d h normal) in
        subst (λ (x : Base). Holds x c e) (sym same) (record {
          main = now;
          has = to_main now c put;
          opened = omega (arith, stalled);
          entries = record { none = λ zero. absurd (omega (arith, stalled, zero)); some = λ some. subst (λ n. HasTable n e []) (sym (in_state-size h.main m h.has 1 (Some guid) (omega arith) sixteen)) empty };
          image = owned-alone (image_size now) now (bytes_of e);
          frozen = record { stalled = λ one. refl; other = λ ne. absurd (ne stalled) };
        })

  -- The stalled state ends.
  module _ (stalled : image_state h.main ≡ stalled_state) (c : File) (put : HasImage (in_state merge_state None h.main) c) where
    abbrev main : Image
    main = in_state merge_state None h.main

    merges : image_state (in_state merge_state None h.main) ≡ merge_state
    merges = in_state-state h.main m h.has 2 None (omega arith) (kept_sixteen h.main m h.has)

    size : image_size (in_state merge_state None h.main) ≡ image_size h.main
    size = in_state-size h.main m h.has 2 None (omega arith) (kept_sixteen h.main m h.has)

    image_is : in_state merge_state None b.image ≡ owned (image_size (in_state merge_state None h.main)) (in_state merge_state None h.main) (bytes_of d) b.diverted
    image_is =
        ap (λ n. with_control merge_state (n + 1) (image_guid b.image) b.image) scn_same ∙ ap (λ (g : List ℕ). with_control merge_state (image_scn h.main + 1) g b.image) guid_same ∙ ap (with_control merge_state (image_scn h.main + 1) (image_guid h.main)) h.image
        ∙ sym (owned-control merge_state (image_scn h.main + 1) (image_guid h.main) (image_size h.main) h.main (bytes_of d) b.diverted (main-some b m d h) (main-long b m d h) (kept_sixteen h.main m h.has))
        ∙ ap (λ n. owned n (in_state merge_state None h.main) (bytes_of d) b.diverted) (sym size)

    pub ended_holds : Holds (on_base ends b) c d
    ended_holds = subst (λ (x : Base). Holds x c d) (sym (ends-base b)) (record {
      main = main;
      has = to_main main c put;
      opened = omega (arith, merges);
      entries = record { none = λ zero. absurd (omega (arith, merges, zero)); some = λ some. subst (λ n. HasTable n d b.diverted) (sym size) (h.entries.some (omega (arith, stalled))) };
      image = image_is;
      frozen = record { stalled = λ one. absurd (omega (arith, merges, one)); other = λ ne. refl };
    })

  -- The merge is finished: the main file alone has the image, but for pages of zeros at its end.
  module _ (merges : image_state h.main ≡ merge_state) (alone : trimmed b.image ≡ h.main) (c e : File) (put : HasImage (in_state normal_state None h.main) c) where
    abbrev last : Image
    last = in_state normal_state None h.main

    normal : image_state (in_state normal_state None h.main) ≡ normal_state
    normal = in_state-state h.main m h.has 0 None (omega arith) (kept_sixteen h.main m h.has)

    pub finished_image : with_control normal_state (image_scn b.image) (image_guid b.image) (trimmed b.image) ≡ in_state normal_state None h.main
    finished_image =
        ap (λ n. with_control normal_state n (image_guid b.image) (trimmed b.image)) scn_same ∙ ap (λ (g : List ℕ). with_control normal_state (image_scn h.main) g (trimmed b.image)) guid_same
        ∙ ap (with_control normal_state (image_scn h.main) (image_guid h.main)) alone

    pub finished_holds : Holds (on_base finish b) c e
    finished_holds = subst (λ (x : Base). Holds x c e) (sym (finish_base b)) (record {
      main = last;
      has = to_main last c put;
      opened = omega (arith, normal);
      entries = record { none = λ zero. refl; some = λ some. absurd (omega (arith, normal, some)) };
      image = finished_image ∙ owned-alone (image_size last) last (bytes_of e);
      frozen = record { stalled = λ one. absurd (omega (arith, normal, one)); other = λ ne. h.frozen.other (λ one. absurd (omega (arith, merges, one))) };
    })
