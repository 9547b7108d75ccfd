-- Worked pages: the definitions compute.
use Rattle.std.proofs.Common.{◌≡◌, [], ◌∷◌, ◌++◌, length, take, drop, refl, replicate, Ok, Err, Some, None, true, false, map}
use Rattle.nb_fields.proofs.Common.{entries_in, bits_in, slots_in, is_header, fresh, fresh_count, fresh_page, is_free_file, stamped, text_payload, raw_kind}
use Rattle.nb_fields.specs.Opened.{opened}
use Rattle.nb_fields.specs.Table.{table_of}

-- how many entries, bits and slots the pages of each size have
sizes_entries : map entries_in (1024 ∷ 2048 ∷ 4096 ∷ 8192 ∷ 16384 ∷ 32768 ∷ []) ≡ 248 ∷ 504 ∷ 1016 ∷ 2040 ∷ 4088 ∷ 8184 ∷ []
sizes_entries = refl

sizes_bits : map bits_in (1024 ∷ 2048 ∷ 4096 ∷ 8192 ∷ 16384 ∷ 32768 ∷ []) ≡ 7936 ∷ 16128 ∷ 32512 ∷ 65280 ∷ 130816 ∷ 261888 ∷ []
sizes_bits = refl

sizes_slots : map slots_in (1024 ∷ 2048 ∷ 4096 ∷ 8192 ∷ 16384 ∷ 32768 ∷ []) ≡ 255 ∷ 511 ∷ 1023 ∷ 2047 ∷ 4095 ∷ 8191 ∷ []
sizes_slots = refl

-- the lengths of new databases, with system places on the way
count_8 : fresh_count 1024 8 ≡ 13
unfolding opened
count_8 = refl

count_242 : fresh_count 1024 242 ≡ 247
unfolding opened
count_242 = refl

count_254 : fresh_count 1024 254 ≡ 260
unfolding opened
count_254 = refl

count_7899 : fresh_count 1024 7899 ≡ 7935
unfolding opened
count_7899 = refl

count_day : fresh_count 4096 1994 ≡ 2000
unfolding opened
count_day = refl

-- the first 64 bytes
header : take 64 (fresh_page 1024 8 0) ≡ (1 ∷ 0 ∷ 0 ∷ 0 ∷ 1 ∷ 0 ∷ 0 ∷ 0 ∷ 1 ∷ 0 ∷ 0 ∷ 0 ∷ 0 ∷ 0 ∷ 0 ∷ 0 ∷ 78 ∷ 66 ∷ 68 ∷ 66 ∷ 1 ∷ 0 ∷ 0 ∷ 0 ∷ 0 ∷ 4 ∷ 0 ∷ 0 ∷ 1 ∷ 0 ∷ 0 ∷ 0 ∷ []) ++ replicate 32 0
unfolding opened
header = refl

header_rest : take 16 (drop 64 (fresh_page 1024 8 0)) ≡ 1 ∷ 0 ∷ 0 ∷ 0 ∷ 0 ∷ 0 ∷ 0 ∷ 0 ∷ 3 ∷ 0 ∷ 0 ∷ 0 ∷ 4 ∷ 0 ∷ 0 ∷ 0 ∷ []
unfolding opened
header_rest = refl

header_form : is_header (fresh_page 1024 8 0) ≡ true
unfolding opened
header_form = refl

-- of 13 pages the bits are taken, and the others free
bits : take 5 (drop 30 (fresh_page 1024 8 1)) ≡ 0 ∷ 0 ∷ 0 ∷ 224 ∷ 255 ∷ []
unfolding opened
bits = refl

second_inventory : take 8 (drop 28 (fresh_page 1024 7905 7935)) ≡ 0 ∷ 0 ∷ 0 ∷ 0 ∷ 128 ∷ 255 ∷ 255 ∷ 255 ∷ []
unfolding opened
second_inventory = refl

pages : length (fresh 1024 8) ≡ 13
unfolding opened
pages = refl

sizes : map length (fresh 1024 8) ≡ replicate 13 1024
unfolding opened
sizes = refl

-- a text written into page 6
hello : take 25 (stamped (fresh_page 1024 8 6) raw_kind (text_payload (104 ∷ 101 ∷ 108 ∷ 108 ∷ 111 ∷ [])) 1 6)
    ≡ 8 ∷ 0 ∷ 0 ∷ 0 ∷ 2 ∷ 0 ∷ 0 ∷ 0 ∷ 1 ∷ 0 ∷ 0 ∷ 0 ∷ 6 ∷ 0 ∷ 0 ∷ 0 ∷ 5 ∷ 0 ∷ 104 ∷ 101 ∷ 108 ∷ 108 ∷ 111 ∷ 0 ∷ 0 ∷ []
unfolding opened
hello = refl

-- free and not free
pub no_file : is_free_file None ≡ true
unfolding opened
no_file = refl

short_zeros : is_free_file (Some (replicate 10 0)) ≡ true
unfolding opened
short_zeros = refl

database : is_free_file (Some (fresh_page 1024 8 0)) ≡ false
unfolding opened
database = refl

-- a difference file of pages 2 and 6, whole and broken
two : table_of 1024 ((2 ∷ 0 ∷ 0 ∷ 0 ∷ 2 ∷ 0 ∷ 0 ∷ 0 ∷ 6 ∷ []) ++ replicate 3063 0) ≡ Ok (2 ∷ 6 ∷ [])
unfolding opened
two = refl

twice : table_of 1024 ((2 ∷ 0 ∷ 0 ∷ 0 ∷ 2 ∷ 0 ∷ 0 ∷ 0 ∷ 2 ∷ []) ++ replicate 3063 0) ≡ Err 0
unfolding opened
twice = refl

too_many : table_of 1024 ((0 ∷ 1 ∷ 0 ∷ 0 ∷ 2 ∷ 0 ∷ 0 ∷ 0 ∷ 6 ∷ []) ++ replicate 3063 0) ≡ Err 0
unfolding opened
too_many = refl

cut : table_of 1024 ((2 ∷ 0 ∷ 0 ∷ 0 ∷ 2 ∷ 0 ∷ 0 ∷ 0 ∷ 6 ∷ []) ++ replicate 2039 0) ≡ Err 2
unfolding opened
cut = refl

empty : table_of 1024 [] ≡ Ok []
unfolding opened
empty = refl
