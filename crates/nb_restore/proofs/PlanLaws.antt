-- Page 0 of level 0, and the page that stands in its place until the restore is done.
use Rattle.std.proofs.Common.{◌≡◌, ℕ, ◌*◌, ◌≤◌, List, length, replicate, refl, sym, ap, arith, Bool, true, false, ◌&&◌, ◌==◌, IsTrue, Some}
use Rattle.nb_restore.proofs.Common.{and_parts, eqb-true, true≢false, number_in, is_zeros, is_header, is_marked, signature, version, kind_of, number_of_page, File, ReadsPage, Header, HasForm, header_in, Page, first_page, joined, IsOfSize, form, IsUnfinishedPage}
use Rattle.nb_fields.specs.Kinds.{header_kind}
use Rattle.nb_restore.proofs.PageLaws.{read_whole}

-- page 0 is read
pub page_0_read : (size : ℕ) (ps : List Page) (file : File) (page after : Page) (b : Bool) → file ≡ Some (joined ps) → IsOfSize size ps → 1 ≤ length ps → length page ≡ size → b ≡ true → ReadsPage file (0 * length page) page after b → after ≡ first_page ps
page_0_read size ps file page after b there sizes some long whole read = read_whole size ps 0 (omega (arith, some)) sizes file page after b there long whole read

-- it is page 0, by its mark
marked : (page : Page) → is_header page ≡ true → (kind_of page ≡ header_kind) × (number_of_page page ≡ 0)
unfolding is_marked
marked page is =
    let parts = both (number_in 0 1 page == 1) (number_in 12 4 page == 0) (number_in 16 4 page == signature) (number_in 20 2 page == version) (and_parts (is_marked page) _ (form page is)).0 in
    (eqb-true (number_in 0 1 page) 1 parts.0, eqb-true (number_in 12 4 page) 0 parts.1)
  where
    both : (a b c d : Bool) → (a && b && c && d) ≡ true → (a ≡ true) × (b ≡ true)
    both true true c d k = (refl, refl)
    both true false c d k = absurd (true≢false (sym k))
    both false b c d k = absurd (true≢false (sym k))

-- its header in state 3, without a pending GUID
abbrev pub unfinished : Header → Header
unfinished h = record h { state = 3; pending = replicate 16 0 }

pub unfinished_page : (h : Header) (page after : Page) → HasForm h → is_header page ≡ true → header_in after ≡ unfinished h → (kind_of page ≡ header_kind → number_of_page page ≡ 0 → HasForm (unfinished h) → IsTrue (is_header after)) → IsUnfinishedPage after
unfolding header_in
unfinished_page h page after formed is reads writes =
    let mark = marked page is in
    record {
      header = writes mark.0 mark.1 (record { size = formed.size; state = omega arith; scn = formed.scn; room = λ e. absurd (omega (arith, e)) });
      state = ap (λ (x : Header). x.state) reads;
      pending = ap (λ (x : Header). is_zeros x.pending) reads;
    }
