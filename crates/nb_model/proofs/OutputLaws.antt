-- What runs say and what of it is acknowledged, where one run goes on from another.
use Rattle.std.proofs.Common.{◌≡◌, ℕ, ◌-◌, ◌≤◌, List, [], ◌∷◌, ◌++◌, length, take, decimal, max, refl, sym, ap, ◌∙◌, arith, length-append, append_assoc, Option, Some, None}
use Rattle.nb_model.proofs.Common.{take-append-le, append-nil, take-append-add, Reply, line_text, spaced, reply_words, Event, strokes_of, replies_of, text_of, output, status_after, status_of, acked_in, cons_nil, tail_same}
use Rattle.nb_model.proofs.AckedLaws.{quiet, lined}

-- the reply of an event, if it has one, before other replies
abbrev with_reply : (session : ℕ) → Option Reply → List (ℕ × Reply) → List (ℕ × Reply)
with_reply session reply rest = elim reply [ Some r ↦ (session, r) ∷ rest | None ↦ rest ]

with_reply-append : (session : ℕ) (reply : Option Reply) (xs ys : List (ℕ × Reply)) → with_reply session reply (xs ++ ys) ≡ with_reply session reply xs ++ ys
with_reply-append session (Some r) xs ys = refl
with_reply-append session None xs ys = refl

-- the replies of two runs, one after the other
pub replies_of-append : (es fs : List Event) → replies_of (es ++ fs) ≡ replies_of es ++ replies_of fs
unfolding replies_of
replies_of-append [] fs = refl
replies_of-append (e ∷ es) fs = ap (with_reply e.session e.reply) (replies_of-append es fs) ∙ with_reply-append e.session e.reply (replies_of es) (replies_of fs)

pub text_of-append : (xs ys : List (ℕ × Reply)) → text_of (xs ++ ys) ≡ text_of xs ++ text_of ys
unfolding text_of
text_of-append [] ys = refl
text_of-append (x ∷ xs) ys = ap (λ (rest : List ℕ). line_text x.0 x.1 ++ rest) (text_of-append xs ys) ∙ sym (append_assoc (line_text x.0 x.1) (text_of xs) (text_of ys))

-- and what they say
pub output_append : (es fs : List Event) → output (es ++ fs) ≡ output es ++ output fs
output_append es fs = ap text_of (replies_of-append es fs) ∙ text_of-append (replies_of es) (replies_of fs)

-- the worst of both is the status
pub status_append : (xs ys : List (ℕ × Reply)) → status_of (xs ++ ys) ≡ max (status_of xs) (status_of ys)
unfolding status_of
status_append [] ys = omega arith
status_append (x ∷ xs) ys = let rest = status_append xs ys in omega (arith, rest)

pub status_events : (es fs : List Event) → status_of (replies_of (es ++ fs)) ≡ max (status_of (replies_of es)) (status_of (replies_of fs))
status_events es fs = ap status_of (replies_of-append es fs) ∙ status_append (replies_of es) (replies_of fs)

-- no line is empty
pub line-some : (session : ℕ) (reply : Reply) → 1 ≤ length (line_text session reply)
unfolding line_text
line-some session reply = omega (arith, length-append (decimal session) (58 ∷ (spaced (reply_words reply) ++ 10 ∷ [])))

-- what an event without a reply says, and one with a reply
pub output-quiet : (e : Event) (es : List Event) → e.reply ≡ None → output (e ∷ es) ≡ output es
unfolding replies_of
output-quiet e es none = ap (λ (r : Option Reply). text_of (with_reply e.session r (replies_of es))) none

text_of-cons : (session : ℕ) (r : Reply) (xs : List (ℕ × Reply)) → text_of ((session, r) ∷ xs) ≡ line_text session r ++ text_of xs
unfolding text_of
text_of-cons session r xs = refl

pub output-line : (e : Event) (es : List Event) (r : Reply) → e.reply ≡ Some r → output (e ∷ es) ≡ line_text e.session r ++ output es
unfolding replies_of
output-line e es r some = ap (λ (x : Option Reply). text_of (with_reply e.session x (replies_of es))) some ∙ text_of-cons e.session r (replies_of es)

pub acked_in-quiet : (e : Event) (es : List Event) (said : ℕ) → e.reply ≡ None → acked_in (e ∷ es) said ≡ quiet (length e.strokes) (acked_in es said)
unfolding acked_in
acked_in-quiet e es said none = rw (none, acked_in) refl

pub acked_in-line : (e : Event) (es : List Event) (said : ℕ) (r : Reply) → e.reply ≡ Some r
    → acked_in (e ∷ es) said ≡ lined (length (line_text e.session r)) (length e.strokes) said (acked_in es (said - length (line_text e.session r)))
unfolding acked_in
acked_in-line e es said r some = rw (some, acked_in) refl

-- where there is no event
pub acked_in-empty : (said : ℕ) → acked_in [] said ≡ None
unfolding acked_in
acked_in-empty said = refl

-- A front of what the first run says is a front of what both say.
pub front_more : (es fs : List Event) (part : List ℕ) → part ≡ take (length part) (output es) → part ≡ take (length part) (output (es ++ fs))
front_more es fs part is =
    let low : length part ≤ length (output es) = front_low part (output es) is in
    is ∙ sym (take-append-le (length part) (output es) (output fs) low) ∙ ap (take (length part)) (sym (output_append es fs))
  where
    front_low : (part whole : List ℕ) → part ≡ take (length part) whole → length part ≤ length whole
    front_low [] whole e = omega arith
    front_low (x ∷ xs) [] e = absurd (cons_nil x xs e)
    front_low (x ∷ xs) (y ∷ ys) e = let rest = front_low xs ys (tail_same x y xs (take (length xs) ys) e) in omega arith

-- All that the first says and a front of what the second says is a front of what both say.
pub front_behind : (es fs : List Event) (part : List ℕ) → part ≡ take (length part) (output fs) → output es ++ part ≡ take (length (output es ++ part)) (output (es ++ fs))
front_behind es fs part is =
    ap (λ (x : List ℕ). output es ++ x) is
    ∙ sym (take-append-add (output es) (output fs) (length part))
    ∙ ap (λ n. take n (output es ++ output fs)) (sym (length-append (output es) part))
    ∙ ap (take (length (output es ++ part))) (sym (output_append es fs))

-- One event: its strokes, its reply and its line.
pub strokes_one : (e : Event) → strokes_of (e ∷ []) ≡ e.strokes
unfolding strokes_of
strokes_one e = append-nil e.strokes

pub replies_one : (e : Event) (r : Reply) → e.reply ≡ Some r → replies_of (e ∷ []) ≡ (e.session, r) ∷ []
unfolding replies_of
replies_one e r some = ap (λ (x : Option Reply). with_reply e.session x []) some

pub output_one : (e : Event) (r : Reply) → e.reply ≡ Some r → output (e ∷ []) ≡ line_text e.session r
unfolding text_of
output_one e r some = ap text_of (replies_one e r some) ∙ append-nil (line_text e.session r)

pub status_one : (e : Event) (r : Reply) → e.reply ≡ Some r → status_of (replies_of (e ∷ [])) ≡ status_after r
unfolding status_of
status_one e r some = ap status_of (replies_one e r some) ∙ omega arith

-- no event: nothing is printed
pub output_no_event : output [] ≡ []
unfolding replies_of text_of
output_no_event = refl

pub status_no_event : status_of (replies_of []) ≡ 0
unfolding replies_of status_of
status_no_event = refl
