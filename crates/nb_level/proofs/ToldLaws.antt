-- What stands in a file that is read as a level file.
use Rattle.std.proofs.Common.{◌≡◌, ℕ, ◌<◌, ◌≤◌, List, length, refl, sym, ap, subst, true, ◌&&◌, ◌||◌, ◌==◌, nat_le, nat_lt, Option, Some, None, Result, Ok, Err}
use Rattle.nb_level.proofs.Common.{number_in, is_page_size, Numbered, Head, Contents, first_fault, head_in, read_level, read_pages, with_head, none_clear, not_long, AreClear, err_ok}
use Rattle.nb_model.proofs.LevelLaws.{head_tests}
use Rattle.nb_host.proofs.PlainLaws.{lt_holds, not_false}

pub with_head-is : (version : ℕ) (h : Head) (r : Result (List Numbered) ℕ) (c : Contents) → with_head version h r ≡ Ok c → (r ≡ Ok c.pages) × (c.head ≡ h)
with_head-is version h (Ok rs) c e =
    let same : record { version = version; head = h; pages = rs } ≡ c = cc in
    (ap (λ (x : Contents). Ok x.pages) same, ap (λ (x : Contents). x.head) (sym same))
with_head-is version h (Err at) c e = absurd (err_ok at c e)

-- the head and the pages that are told are those of the bytes, and no test of the head fails
pub record IsTold (bytes : List ℕ) (c : Contents) : Type 0 where
  pub version : c.version ≡ number_in 4 2 bytes
  pub head : c.head ≡ head_in bytes
  pub pages : read_pages (number_in 4 2 bytes) (head_in bytes) bytes ≡ Ok c.pages
  pub long : 52 ≤ length bytes
  pub known : (c.version == 101 || c.version == 102) ≡ true
  pub level : (nat_le 1 c.head.level && nat_le c.head.level 9) ≡ true
  pub size : is_page_size c.head.size ≡ true
  pub later : c.head.previous_scn < c.head.scn

pub level_told : (bytes : List ℕ) (c : Contents) → read_level bytes ≡ Ok c → IsTold bytes c
unfolding read_level
level_told bytes c e = by (first_fault (head_tests bytes version h)) refl e
  where
    version : ℕ
    version = number_in 4 2 bytes

    h : Head
    h = head_in bytes

    of_pages : AreClear (head_tests bytes version h) → (pages : Result (List Numbered) ℕ) → read_pages version h bytes ≡ pages → with_head version h pages ≡ Ok c → IsTold bytes c
    of_pages clear (Err at) is f = absurd (err_ok at c f)
    of_pages clear (Ok all) is f =
        let same : record { version = version; head = h; pages = all } ≡ c = cc in
        subst (λ (x : Contents). IsTold bytes x) same (record {
          version = refl;
          head = refl;
          pages = is;
          long = not_long (length bytes) 52 clear.1.0;
          known = not_false (version == 101 || version == 102) clear.1.1.0;
          level = not_false (nat_le 1 h.level && nat_le h.level 9) clear.1.1.1.0;
          size = not_false (is_page_size h.size) clear.1.1.1.1.0;
          later = lt_holds h.previous_scn h.scn (not_false (nat_lt h.previous_scn h.scn) clear.1.1.1.1.1.0);
        })

    by : (x : Option ℕ) → first_fault (head_tests bytes version h) ≡ x → elim x as (λ z. Result Contents ℕ) [ Some place ↦ Err place | None ↦ with_head version h (read_pages version h bytes) ] ≡ Ok c → IsTold bytes c
    by (Some place) is f = absurd (err_ok place c f)
    by None is f = of_pages (none_clear (head_tests bytes version h) is) (read_pages version h bytes) refl f
