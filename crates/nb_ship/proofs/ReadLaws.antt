-- What was read of a ship file.
use Rattle.std.proofs.Common.{◌≡◌, ℕ, List, [], take, refl, sym, ap, subst, ◌∙◌, arith, Bool, true, false, not, ◌||◌, Some, None, Option, Result, Ok, Err, IfOk, ◌+◌, ◌≤◌}
use Rattle.nb_ship.specs.Reads.{ReadsOnce}
use Rattle.nb_chain.specs.Level.{IsWhole}
use Rattle.nb_ship.proofs.Common.{take-take, File, Files, bytes_of, same_name, Refusal, Unfinished, Fault, Contents, Head, read_level, first_fault, begins_level, head_of, LevelHead, LevelRefused, HeadSays, HasHead, Says, is_header, same-header, is_foreign, has_delta, by_head, by_ship, by_pending, is_another, header_in, Header, Found, Pending}

-- no bytes are no level file
pub no_bytes : (at : ℕ) × (read_level [] ≡ Err at)
unfolding read_level first_fault begins_level
no_bytes = (0, refl)

-- what is refused is no level file
pub no_level : (file : File) (name : List ℕ) (r : Refusal) → LevelRefused file name r → (at : ℕ) × (read_level (bytes_of file) ≡ Err at)
no_level None name r says = no_bytes
no_level (Some bytes) name r says = (says.0, says.1)

-- the first 64 bytes tell a database, and the file beside it the rest
pub foreign : (files : Files) (name first : List ℕ) (database beside : Bool) → first ≡ take 64 (bytes_of (files name)) → database ≡ is_header first → beside ≡ has_delta files name → (database || beside) ≡ is_foreign files name
unfolding is_foreign
foreign files name first database beside read is there =
    let bytes : List ℕ = bytes_of (files name) in
    let same : is_header first ≡ is_header bytes = same-header first bytes (ap (take 64) read ∙ take-take 64 64 bytes (omega arith)) in
    ap (λ (t : Bool). t || beside) (is ∙ same) ∙ ap (λ (t : Bool). is_header bytes || t) there

-- a head that was read
pub some_head : (read : Result Contents ℕ) (found : Option LevelHead) (head : LevelHead) → found ≡ Some head → HeadSays read (Ok found) → HasHead read head
some_head read found head is says = subst (λ (o : Option LevelHead). HeadSays read (Ok o)) is says

-- the ship file is a level file
pub level_there : (guid name : List ℕ) (free foreign : Bool) (read : Result Contents ℕ) (head : LevelHead) (result : Result Found Fault) → free ≡ false → foreign ≡ false → HasHead read head
    → ((c : Contents) → c.head ≡ head_of head → Says (by_head guid name c.head) result) → Says (by_ship guid name free foreign read) result
level_there guid name free foreign read head result not_free own is says =
    let path : by_ship guid name free foreign read ≡ by_head guid name is.contents.head = ap (λ (t : Bool). by_ship guid name t foreign read) not_free ∙ ap (λ (t : Bool). by_ship guid name false t read) own ∙ ap (by_ship guid name false false) is.is in
    subst (λ (r : Result Found Refusal). Says r result) (sym path) (says is.contents (sym is.named))

-- it isn't the one that was being merged, by its head
abbrev pub another : Header → Head → Bool
another h d = not (same_name h.pending d.guid) || not (same_name h.guid d.previous)

abbrev pub if_another : Bool → (guid : List ℕ) → Result Found Refusal
if_another true guid = Err Unfinished
if_another false guid = Ok (Pending guid)

another_is : (bytes : List ℕ) (c : Contents) → is_another bytes c ≡ another (header_in bytes) c.head
unfolding header_in
another_is bytes c = refl

by_another : (t : Bool) (guid : List ℕ) → elim t as (λ x. Result Found Refusal) [ true ↦ Err Unfinished | false ↦ Ok (Pending guid) ] ≡ if_another t guid
by_another true guid = refl
by_another false guid = refl

pub pending_by : (bytes : List ℕ) (read : Result Contents ℕ) (header : Header) (head : LevelHead) (t : Bool) → header ≡ header_in bytes → HasHead read head → another header (head_of head) ≡ t → by_pending bytes read ≡ if_another t head.guid
pending_by bytes read header head t same is test =
    let c : Contents = is.contents in
    let tested : is_another bytes c ≡ t = another_is bytes c ∙ ap (λ (h : Header). another h c.head) (sym same) ∙ ap (another header) (sym is.named) ∙ test in
    ap (by_pending bytes) is.is ∙ by_another (is_another bytes c) c.head.guid ∙ ap (λ (b : Bool). if_another b c.head.guid) tested ∙ ap (λ (d : Head). if_another t d.guid) (sym is.named)

-- ---- how much was read

pub whole_reads : (file : File) (before after : ℕ) (head : LevelHead) → IsWhole file before after head → ReadsOnce (read_level (bytes_of file)) 2 before after
whole_reads file before after head whole =
    subst (λ (r : Result Contents ℕ). ReadsOnce r 2 before after) (sym (ap (λ (f : File). read_level (bytes_of f)) whole.there ∙ whole.read)) (let reads = whole.reads in omega (arith, reads))

pub none_reads : (read : Result Contents ℕ) (at others before after : ℕ) → read ≡ Err at → ReadsOnce read others before after
none_reads read at others before after none = subst (λ (r : Result Contents ℕ). ReadsOnce r others before after) (sym none) tt

-- a few reads alone
pub few_reads : (read : Result Contents ℕ) (others before after : ℕ) → after ≤ before + others → ReadsOnce read others before after
few_reads (Err at) others before after few = tt
few_reads (Ok c) others before after few = omega (arith, few)

-- and a few before
pub more_reads : (read : Result Contents ℕ) (others all start before after : ℕ) → before + others ≤ start + all → ReadsOnce read others before after → ReadsOnce read all start after
more_reads (Err at) others all start before after few once = tt
more_reads (Ok c) others all start before after few once = omega (arith, few, once)

-- whatever was answered
pub any_ok : {T : Type 0} (P : Type 0) (result : Result T Fault) → P → IfOk result (λ (value : T). P)
any_ok P (Ok value) holds = holds
any_ok P (Err fault) holds = tt

pub ok_more : {T : Type 0} (P Q : Type 0) (result : Result T Fault) → (P → Q) → IfOk result (λ (value : T). P) → IfOk result (λ (value : T). Q)
ok_more P Q (Ok value) then holds = then holds
ok_more P Q (Err fault) then holds = tt
