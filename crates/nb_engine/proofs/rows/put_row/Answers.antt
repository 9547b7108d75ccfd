use Rattle.std.proofs.Common.{◌≡◌, ◌+◌, ◌-◌, ◌≤◌, ℕ, List, length, replicate, ap, ◌∙◌, arith}
use Rattle.nb_engine.proofs.Common.{put_mid, bytes_of, with_part, put_mid-with_part, backup_slot}
use Rattle.nb_engine.proofs.RowLaws.{row_written, name_short}
use Rattle.nb_engine.proofs.rows.put_row.Goals as goal

pub returns : goal.returns
returns c =
    let row = c.args.row.now in
    let name : List ℕ = c.as_bytes-name.result.now in
    let name_is : name ≡ row.name = c.as_bytes-name.ensures.value ∙ c.as_str.ensures.value in
    let n : ℕ = length name in
    let short : n ≤ 100 = omega (arith, name_short row.name c.as_str.ensures.name, ap length name_is) in
    let zeros : c.fill.new.self ≡ replicate 256 0 = c.fill.ensures.after (λ y e. e) ∙ ap (λ (m : ℕ). replicate m 0) c.requires in
    let fields : c.put-6.new.page
    ≡ with_part 16 row.guid (with_part 8 (bytes_of 8 row.time) (with_part 4 (bytes_of 4 row.scn) (with_part 2 (bytes_of 2 n) (with_part 1 (bytes_of 1 row.level) (with_part 0 (bytes_of 1 1) (replicate 256 0)))))) =
    c.put-6.ensures.written
    ∙ ap (with_part 16 row.guid)
    (c.put-5.ensures.written
    ∙ ap (with_part 8 (bytes_of 8 row.time))
    (c.put-4.ensures.written
    ∙ ap (λ (v : ℕ). with_part 4 (bytes_of 4 v) c.put-3.new.page) c.from-2.ensures
    ∙ ap (with_part 4 (bytes_of 4 row.scn))
    (c.put-3.ensures.written ∙ ap (with_part 2 (bytes_of 2 n)) (c.put-2.ensures.written ∙ ap (λ (v : ℕ). with_part 1 (bytes_of 1 v) c.put.new.page) c.from.ensures ∙ ap (with_part 1 (bytes_of 1 row.level)) (c.put.ensures.written ∙ ap (with_part 0 (bytes_of 1 1)) zeros))))) in
    ap (λ (xs : List ℕ). put_mid 32 (32 + n - 32) c.put-6.new.page xs) c.copy_from_slice.ensures.after ∙ put_mid-with_part 32 (32 + n - 32) name c.put-6.new.page (omega arith)
    ∙ ap (with_part 32 name) fields ∙ row_written row.level row.scn row.time row.guid name (omega arith) (omega arith) short ∙ ap (λ (xs : List ℕ). backup_slot row.level row.scn row.time row.guid xs) name_is
