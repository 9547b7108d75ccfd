use Rattle.std.proofs.Common.{◌≡◌, ◌+◌, ◌-◌, ◌≤◌, ℕ, List, length, replicate, ap, ◌∙◌, arith}
use Rattle.nb_table.proofs.Common.{put_mid, bytes_of, with_part, put_mid-with_part, table_slot}
use Rattle.nb_table.proofs.SlotLaws.{table_written, name_short}
use Rattle.nb_table.proofs.slots.fill_table.Goals as goal

pub returns : goal.returns
returns c =
    let table : List ℕ = c.args.table.now in
    let first : ℕ = c.args.first in
    let name : List ℕ = c.as_bytes-name.result.now in
    let name_is : name ≡ table = c.as_bytes-name.ensures.value ∙ c.as_str.ensures.value in
    let n : ℕ = length name in
    let short : n ≤ 30 = omega (arith, name_short table c.as_str.ensures.name, ap length name_is) in
    let zeros : c.fill.new.self ≡ replicate 256 0 = c.fill.ensures.after (λ y e. e) ∙ ap (λ (m : ℕ). replicate m 0) c.requires in
    let fields : c.put-3.new.page ≡ with_part 4 (bytes_of 4 first) (with_part 2 (bytes_of 2 n) (with_part 0 (bytes_of 1 1) (replicate 256 0))) =
    c.put-3.ensures.written ∙ ap (λ (v : ℕ). with_part 4 (bytes_of 4 v) c.put-2.new.page) c.from.ensures
    ∙ ap (with_part 4 (bytes_of 4 first)) (c.put-2.ensures.written ∙ ap (with_part 2 (bytes_of 2 n)) (c.put.ensures.written ∙ ap (with_part 0 (bytes_of 1 1)) zeros)) in
    ap (λ (xs : List ℕ). put_mid 16 (16 + n - 16) c.put-3.new.page xs) c.copy_from_slice.ensures.after ∙ put_mid-with_part 16 (16 + n - 16) name c.put-3.new.page (omega arith)
    ∙ ap (with_part 16 name) fields ∙ table_written name first short ∙ ap (λ (xs : List ℕ). table_slot xs first) name_is
