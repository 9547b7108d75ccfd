-- How a run of calls goes on: by another run of calls, and by one call.
use Rattle.std.proofs.Common.{◌≡◌, ◌≢◌, ⊎_elim, ℕ, List, refl, sym, ◌∙◌, ap, subst}
use Rattle.nb_change.proofs.Common.{File, Files, with_file, World, Leaves, LeavesAll, Untouched, IsStill, IsNow, IsTimely, Passes, AtEachMoment, Names, Other, Only, NoNames, Changes, Moved, Remade}
use Rattle.nb_change.proofs.MomentLaws.{started, goes_on, joined, weaker, left_before, untouched_joined, untouched_fewer, untouched_begun}
use Rattle.nb_change.proofs.NameLaws.{decide, with_file-same, with_file-other}

-- of every file a crash leaves what it would have left before
pub all_before : (old new : World) → Untouched old new (λ _. Unit {0}) → (files : Files) → LeavesAll new files → LeavesAll old files
all_before old new same files left m = left_before old new _ same m (files m) tt (left m)

-- before the first call
pub begun : (old : World) (names : Names) (P : Files → Type 0) → IsTimely old → ((files : Files) → LeavesAll old files → P files) → Changes old old names P
begun old names P timely here = record {
  moments = started old _ timely (λ files said is. record { has = here files is.left; others = λ m other. is.left m; output = is.output });
  now = here;
  others = untouched_begun old _;
  others_read = λ m other. refl;
  said = refl;
}

-- calls that change no file
pub rested : (old new : World) (names : Names) (P : Files → Type 0) → IsStill old new → new.said ≡ old.said → AtEachMoment old new (IsNow old) → ((files : Files) → LeavesAll old files → P files) → Changes old new names P
rested old new names P still silent moments here = record {
  moments = weaker old new _ _ moments (λ files said is. record { has = here files is.left; others = λ m other. is.left m; output = is.output });
  now = λ files left. here files (all_before old new still.left files left);
  others = untouched_fewer old new _ _ still.left (λ m other. tt);
  others_read = λ m other. ap (λ (f : Files). f m) still.files;
  said = silent;
}

-- More names, and less is said of the files. What a crash leaves of a name that wasn't touched it would have left before.
pub weakened : (old new : World) (few many : Names) (P Q : Files → Type 0) → Changes old new few P → ((m : List ℕ) → few m → many m)
    → ((files : Files) → ((m : List ℕ) → Other few m → Leaves old m (files m)) → P files → Q files) → Changes old new many Q
weakened old new few many P Q is are pq = record {
  moments = weaker old new _ _ is.moments (λ files said left. record {
    has = pq files left.others left.has;
    others = λ m other. left.others m (λ one. other (are m one));
    output = left.output;
  });
  now = λ files left. pq files (λ m other. left_before old new _ is.others m _ other (left m)) (is.now files left);
  others = untouched_fewer old new _ _ is.others (λ m other one. other (are m one));
  others_read = λ m other. is.others_read m (λ one. other (are m one));
  said = is.said;
}

-- less is said of the files
pub weaker_has : (old new : World) (names : Names) (P Q : Files → Type 0) → Changes old new names P → ((files : Files) → P files → Q files) → Changes old new names Q
weaker_has old new names P Q is pq = weakened old new names names P Q is (λ m one. one) (λ files others has. pq files has)

-- one run of calls after another
pub composed : (old mid new : World) (names : Names) (P Q R : Files → Type 0) → Changes old mid names P → Changes mid new names Q
    → ((files : Files) → P files → R files) → ((files : Files) → Q files → R files) → Changes old new names R
composed old mid new names P Q R first second pr qr = record {
  moments = joined old mid new _ _ _ first.moments second.moments
      (λ files said left. record { has = pr files left.has; others = left.others; output = left.output })
      (λ files said left. record {
        has = qr files left.has;
        others = λ m other. left_before old mid _ first.others m _ other (left.others m other);
        output = left.output ∙ first.said;
      });
  now = λ files left. qr files (second.now files left);
  others = untouched_joined old mid new _ first.others second.others;
  others_read = λ m other. second.others_read m other ∙ first.others_read m other;
  said = second.said ∙ first.said;
}

-- one run of calls after another, each of which touches some of the names
pub composed_within : (old mid new : World) (one two names : Names) (P Q R : Files → Type 0) → Changes old mid one P → Changes mid new two Q
    → ((m : List ℕ) → one m → names m) → ((m : List ℕ) → two m → names m)
    → ((files : Files) → ((m : List ℕ) → Other one m → Leaves old m (files m)) → P files → R files)
    → ((files : Files) → ((m : List ℕ) → Other two m → Leaves mid m (files m)) → Q files → R files) → Changes old new names R
composed_within old mid new one two names P Q R first second ones twos pr qr =
    composed old mid new names R R R (weakened old mid one names P R first ones pr) (weakened mid new two names Q R second twos qr) (λ files r. r) (λ files r. r)

-- one call more, whatever it does to the files of these names
pub one_more : (old mid new : World) (names : Names) (P Q : Files → Type 0) → Changes old mid names P → Passes mid new → Untouched mid new (Other names)
    → ((m : List ℕ) → Other names m → new.files m ≡ mid.files m) → new.said ≡ mid.said
    → ((files : Files) → P files → Q files) → ((files : Files) → LeavesAll new files → Q files) → Changes old new names Q
one_more old mid new names P Q so_far time same read silent weak here = record {
  moments = goes_on old mid new _ _
      (weaker old mid _ _ so_far.moments (λ files said left. record { has = weak files left.has; others = left.others; output = left.output }))
      time
      (λ files said is. record {
        has = here files is.left;
        others = λ m other. left_before old new _ others m _ other (is.left m);
        output = is.output ∙ silent ∙ so_far.said;
      });
  now = here;
  others = others;
  others_read = λ m other. read m other ∙ so_far.others_read m other;
  said = silent ∙ so_far.said;
}
  where
    others : Untouched old new (Other names)
    others = untouched_joined old mid new _ so_far.others same

-- one call more that changes no file
pub still_more : (old mid new : World) (names : Names) (P : Files → Type 0) → Changes old mid names P → Passes mid new → IsStill mid new → new.said ≡ mid.said → Changes old new names P
still_more old mid new names P so_far time still silent =
    one_more old mid new names P P so_far time (untouched_fewer mid new _ _ still.left (λ m other. tt)) (λ m other. ap (λ (f : Files). f m) still.files) silent (λ files p. p)
    (λ files left. so_far.now files (all_before mid new still.left files left))

-- What a crash leaves of all files but one, with that one as it would have been left.
pub left_with : (w : World) (name : List ℕ) (files : Files) (file : File) → ((m : List ℕ) → m ≢ name → Leaves w m (files m)) → Leaves w name file → LeavesAll w (with_file files name file)
left_with w name files file others was m =
    ⊎_elim
    (λ (is : m ≡ name). subst (λ (n : List ℕ). Leaves w n (with_file files name file n)) (sym is) (subst (λ (f : File). Leaves w name f) (sym (with_file-same files name file)) was))
    (λ (other : m ≢ name). subst (λ (f : File). Leaves w m f) (sym (with_file-other files name file m other)) (others m other))
    (decide m name)

-- After a run of calls one file moves by a step: what stood moves with it.
pub moved_on : (old mid new : World) (names : Names) (P Q : Files → Type 0) (name : List ℕ) (step : File → File → Type 0) → Changes old mid names P → Changes mid new (Only name) (Moved mid name step) → names name
    → ((files : Files) → P files → Q files)
    → ((before files : Files) → LeavesAll mid before → P before → step (before name) (files name) → ((m : List ℕ) → m ≢ name → files m ≡ before m) → Q files) → Changes old new names Q
moved_on old mid new names P Q name step first second touched weak by =
    composed_within old mid new names (Only name) names P (Moved mid name step) Q first second (λ m one. one) (λ m is. subst names (sym is) touched)
    (λ files others has. weak files has)
    (λ files others moved.
    let before : Files = with_file files name moved.before in
    let left : LeavesAll mid before = left_with mid name files moved.before others moved.was in
    by before files left (first.now before left) (subst (λ (f : File). step f (files name)) (sym (with_file-same files name moved.before)) moved.by)
    (λ m other. sym (with_file-other files name moved.before m other)))

-- After a run of calls one file is made anew or removed. Of it a crash would have left `there`.
pub remade_on : (old mid new : World) (names : Names) (P Q : Files → Type 0) (name : List ℕ) (made : File → Type 0) (there : File) → Changes old mid names P → Changes mid new (Only name) (Remade mid name made) → names name
    → Leaves mid name there → ((files : Files) → P files → Q files)
    → ((before files : Files) → LeavesAll mid before → P before → before name ≡ there → made (files name) → ((m : List ℕ) → m ≢ name → files m ≡ before m) → Q files) → Changes old new names Q
remade_on old mid new names P Q name made there first second touched was weak by =
    composed_within old mid new names (Only name) names P (Remade mid name made) Q first second (λ m one. one) (λ m is. subst names (sym is) touched)
    (λ files others has. weak files has)
    (λ files others. ⊎_elim
    (λ same. weak files (first.now files (λ m. ⊎_elim (λ (is : m ≡ name). subst (λ (n : List ℕ). Leaves mid n (files n)) (sym is) same) (λ (other : m ≢ name). others m other) (decide m name))))
    (λ is.
    let before : Files = with_file files name there in
    let left : LeavesAll mid before = left_with mid name files there others was in
    by before files left (first.now before left) (with_file-same files name there) is (λ m other. sym (with_file-other files name there m other))))

-- After a run of calls others change no file: what stood stands.
pub kept_on : (old mid new : World) (names : Names) (P : Files → Type 0) → Changes old mid names P → Changes mid new NoNames (LeavesAll mid) → Changes old new names P
kept_on old mid new names P first second =
    composed_within old mid new names NoNames names P (LeavesAll mid) P first second (λ m one. one) (λ m none. absurd none) (λ files others has. has) (λ files others left. first.now files left)

-- Calls that change no file, and then a run of calls.
pub kept_then : (old mid new : World) (names : Names) (P Q : Files → Type 0) → Changes old mid NoNames (LeavesAll old) → Changes mid new names P → ((files : Files) → LeavesAll old files → Q files) → ((files : Files) → P files → Q files) → Changes old new names Q
kept_then old mid new names P Q first second here pq =
    composed_within old mid new NoNames names names (LeavesAll old) P Q first second (λ m none. absurd none) (λ m one. one) (λ files others left. here files left) (λ files others has. pq files has)
