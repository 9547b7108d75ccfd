-- Names of tables are ASCII, so they are text.
use Rattle.std.proofs.Common.{◌≡◌, ℕ, ◌<◌, List, true, false, arith}
use Rattle.nb_model.proofs.Common.{list_all, and_parts, is_table_name, is_table_byte}
use Rattle.std.specs.Str.{IsUtf8}
use Rattle.nb_host.proofs.Ascii.{in_range, is_one, in_either, none_passes}

table_byte : (b : ℕ) → is_table_byte b ≡ true → b < 128
table_byte b = in_either _ _ b (in_either _ _ b (in_either _ _ b (in_range b 65 90 (omega arith)) (in_range b 97 122 (omega arith))) (in_range b 48 57 (omega arith))) (is_one b 95 (omega arith))

pub not_table_name : (bytes : List ℕ) → (IsUtf8 bytes → ⊥) → is_table_name bytes ≡ false
not_table_name bytes = none_passes (is_table_name bytes) is_table_byte bytes (λ e. (and_parts _ (list_all is_table_byte bytes) e).1) table_byte
