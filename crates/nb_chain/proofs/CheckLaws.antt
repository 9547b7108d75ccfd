-- The verdict on a chain, from what its files are found to be.
use Rattle.std.proofs.Common.{◌≡◌, ℕ, ◌+◌, ◌-◌, ◌*◌, ◌<◌, ◌≤◌, List, [], ◌∷◌, length, refl, sym, ap, ◌∙◌, arith, Some, None, Ok, Err, max}
use Rattle.nb_chain.proofs.Common.{size_of, File, Files, Fault, Refused, Device, Memory, Refusal, header_in, HasForm, Link, whole_link, next_links, linked, verdict, all_over, applied, First, Mark, Tip, is_blank, without_blank, links_noted, CheckSays, IsChain, FirstSays, FirstRefused, IsFirst, LevelsSay, AreNext, chain_most, check_most, end_most, tip_link, header_link, last_of}
use Rattle.nb_fields.proofs.SizeLaws.{size_facts}
use Rattle.nb_chain.proofs.ImageLaws.{chain_length, chain_count}
use Rattle.nb_chain.proofs.LinkLaws.{bare, links_bare, first_broken, first_missing, is_last, last_bare}
use Rattle.nb_chain.proofs.StartLaws.{size_is}
use Rattle.nb_model.proofs.WholeLaws.{verdict_there}

-- the first file is refused
pub check_first : (files : Files) (name : List ℕ) (names : List (List ℕ)) (before after : ℕ) (fault : Fault) → FirstSays (files name) name (Err fault) → CheckSays files (name ∷ names) before after (Err fault)
check_first files name names before after (Refused r) says = from (files name) refl says
  where
    from : (file : File) → files name ≡ file → FirstRefused file name r → verdict files (name ∷ names) ≡ Err r
    from None is refused = first_missing files name names is ∙ ap (λ (x : Refusal). Err x) (sym refused)
    from (Some bytes) is refused = first_broken files name names bytes r is refused
check_first files name names before after Device says = tt
check_first files name names before after Memory says = tt

module _ (files : Files) (name : List ℕ) (names : List (List ℕ)) (bytes : List ℕ) (first : First) (tip : Tip) (there : files name ≡ Some bytes) (is : IsFirst name bytes first) (starts : tip_link tip ≡ header_link first.header) where
  -- what the second file goes on from
  begins : tip_link tip ≡ bare (whole_link bytes)
  unfolding header_in
  begins = starts ∙ ap header_link is.header

  behind_first : verdict files (name ∷ names) ≡ linked (whole_link bytes) (next_links files 1 (tip_link tip) names)
  behind_first =
      verdict_there files name names bytes (whole_link bytes) there is.accepted
      ∙ ap (linked (whole_link bytes)) (links_bare files 1 (whole_link bytes) names ∙ ap (λ (l : Link). next_links files 1 l names) (sym begins))

  -- one of the others is refused
  pub check_others : (old new : List Mark) (start reads before after : ℕ) (fault : Fault) → LevelsSay files tip names old new start reads (Err fault) → CheckSays files (name ∷ names) before after (Err fault)
  check_others old new start reads before after (Refused r) says = behind_first ∙ ap (linked (whole_link bytes)) says
  check_others old new start reads before after Device says = tt
  check_others old new start reads before after Memory says = tt

  -- all are accepted
  module _ (form : HasForm first.header) (new : List Mark) (old : List Mark) (none : old ≡ []) (before start reads after : ℕ) (last : Tip) (next : AreNext files tip names old new start reads last) where
    abbrev links : List Link
    links = whole_link bytes ∷ next.links

    marks : new ≡ links_noted next.links []
    marks = next.marks ∙ ap (links_noted next.links) none

    size : first.header.page_size ≡ size_of bytes
    size = size_is bytes first.header is.header

    wide : 0 < size_of bytes
    wide = let w = (size_facts first.header.page_size form.size).at_least in omega (arith, w, size)

    long : length bytes ≡ first.pages * size_of bytes
    long = is.pages ∙ ap (λ (k : ℕ). first.pages * k) size

    last_is : tip_link last ≡ bare (last_of (whole_link bytes) next.links)
    last_is = next.next ∙ ap (λ (l : Link). bare (last_of l next.links)) begins ∙ last_bare (whole_link bytes) next.links

    accepted : verdict files (name ∷ names) ≡ Ok links
    accepted = behind_first ∙ ap (linked (whole_link bytes)) next.accepted

    -- how many pages the files have, and how many of them the image has
    all_over_is : length (all_over links []) ≡ max first.pages (length new)
    all_over_is = chain_length bytes first.pages next.links wide long ∙ ap (λ (m : List Mark). max first.pages (length m)) (sym marks)

    applied_is : without_blank (is_blank bytes first.header.page_size first.pages new) (max first.pages (length new)) ≡ length (applied links)
    applied_is =
        ap (λ (k : ℕ). without_blank (is_blank bytes k first.pages new) (max first.pages (length new))) size
        ∙ ap (λ (m : List Mark). without_blank (is_blank bytes (size_of bytes) first.pages m) (max first.pages (length m))) marks
        ∙ sym (chain_count bytes first.pages next.links wide long)

    -- how much was read, whatever the count comes to
    pub check_within : reads ≤ before + chain_most files (name ∷ names) → after + without_blank (is_blank bytes first.header.page_size first.pages new) (max first.pages (length new)) ≤ reads + max first.pages (length new) + 1
        → after ≤ before + check_most files (name ∷ names)
    check_within levels ended =
        let blank : end_most (verdict files (name ∷ names)) ≡ length (all_over links []) - length (applied links) + 1 = ap end_most accepted in
        let all : after ≤ before + (chain_most files (name ∷ names) + end_most (verdict files (name ∷ names))) = omega (arith, blank, all_over_is, applied_is, levels, ended) in
        all

    pub check_all : (count : ℕ) → count ≡ without_blank (is_blank bytes first.header.page_size first.pages new) (max first.pages (length new)) → start ≤ before + 1 → after + count ≤ reads + max first.pages (length new) + 1
        → IsChain files (name ∷ names) before after (record { first = first; page_size = last.page_size; count = count; guid = last.guid; scn = last.scn })
    check_all count counted started ended =
        record {
          links = links;
          accepted = accepted;
          last = is_last (record { first = first; page_size = last.page_size; count = count; guid = last.guid; scn = last.scn }) (whole_link bytes) next.links (ap (λ (l : Link). l.size) last_is) (ap (λ (l : Link). l.guid) last_is) (ap (λ (l : Link). l.scn) last_is);
          count = counted ∙ applied_is;
          reads = omega (arith, all_over_is, counted, applied_is, started, ended, next.reads);
        }
