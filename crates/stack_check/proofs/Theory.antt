-- The search of the stack check: what each visit keeps, and what the search's end says. Assumes nothing.
use mathlib.Core.Path.{◌≡◌, refl, sym, ◌∙◌, ap, subst}
use mathlib.Core.Bool.{Bool, true, false}
use mathlib.Core.List.{List, [], ◌∷◌}
use mathlib.Core.Logic.{◌⊎◌, inl, inr, ⊎_elim}
use Prim.Native.Nat.{ℕ, zero, suc, ◌+◌, ◌-◌, ◌≤◌, ◌<◌, ◌^◌}
use native.Mathlib.Nat.{le_of_suc-le-suc, not-suc-le-zero}
use native.Mathlib.Numerals.{add-one}
use native.Mathlib.Omega.{arith}
use lib.ListN.{length, get_or, set, length-set}
use lib.Seq.{get_or-set_same, get_or-set_other}
use Rattle.clearing.proofs.Orders.{same_or, below_or, below_next}
use Rattle.definition.specs.Image.{Chunk}
use Rattle.definition.specs.Decode.{fault}
use Rattle.definition.proofs.Judged.{true_not_false}
use Rattle.stack_check.specs.Node.{node_at}
use Rattle.stack_check.proofs.Nodes.{one_more, changeable, opens_small}
use Rattle.stack_check.specs.Flat.{Goes, Reach, Assigned, Fit, Obeys, Lowest, NoFault, height_after, depth_after, Changeable}
use Rattle.stack_check.specs.Progress.{zeros, zero_at, Arrived, HandledAt, Listed, Forced, Progress, SearchKept, Coming, Visited, Spread, Handling}
use Rattle.stack_check.specs.declared.Search.{Search}
use Rattle.stack_check.specs.declared.Node.{Node}

-- numbers and lists

pub positive : (n : ℕ) → (n ≡ 0 → ⊥) → 0 < n
positive n h = omega arith

set_not_clear : ◌≡◌ {A = Bool} true false → ⊥
set_not_clear e = true_not_false e

zeros_set : (l : List ℕ) (i v : ℕ) → i < length l → get_or l i 0 ≡ 0 → zeros (set l i (v + 1)) + 1 ≡ zeros l
unfolding zeros zero_at
zeros_set [] i v h e = absurd (not-suc-le-zero h)
zeros_set (x ∷ xs) zero v h e = rw (e, add-one v) (omega arith)
zeros_set (x ∷ xs) (suc i) v h e =
    let ih = zeros_set xs i v (le_of_suc-le-suc h) e in
    omega arith

pub zeros_all : (l : List ℕ) → ((i : ℕ) → get_or l i 0 ≡ 0) → zeros l ≡ length l
unfolding zeros zero_at
zeros_all [] f = refl
zeros_all (x ∷ xs) f = rw (f 0, zeros_all xs (λ i. f (suc i))) (omega arith)

-- an element after a store: the stored one, or the old one at another place
Stored : List ℕ → ℕ → ℕ → ℕ → Type 0
Stored l i v j = ((j ≡ i) × (get_or (set l i v) j 0 ≡ v)) ⊎ ((j ≡ i → ⊥) × (get_or (set l i v) j 0 ≡ get_or l j 0))

stored : (l : List ℕ) (i v j : ℕ) → i < length l → Stored l i v j
unfolding Stored
stored l i v j h =
    ⊎_elim
    (λ e. inl (e, ap (λ (m : ℕ). get_or (set l i v) m 0) e ∙ get_or-set_same l i v 0 h))
    (λ n. inr (n, get_or-set_other l i j v 0 n))
    (same_or j i)

-- the search with `bad` set
abbrev pub broken : Search → Search
broken s = record { head = s.head; tail = s.tail; low = s.low; bad = true }

abbrev pub pushed : Search → Search
pushed s = record { head = s.head; tail = s.tail + 1; low = s.low; bad = s.bad }

module _ {hs ds ts hs' ds' ts' : List ℕ} {s s' : Search} (K : SearchKept hs ds ts hs' ds' ts' s s') where
  pub kept_trans : {hs'' ds'' ts'' : List ℕ} {s'' : Search} → SearchKept hs' ds' ts' hs'' ds'' ts'' s' s'' → SearchKept hs ds ts hs'' ds'' ts'' s s''
  kept_trans L =
      record {
        heights = λ o l. L.heights o (rw (K.heights o l) l) ∙ K.heights o l;
        depths = λ o l. L.depths o (rw (K.heights o l) l) ∙ K.depths o l;
        todo = λ j l. L.todo j (omega (arith, K.grows)) ∙ K.todo j l;
        long = L.long ∙ K.long;
        grows = omega (arith, K.grows, L.grows);
        worse = λ b. K.worse (L.worse b);
        head = L.head ∙ K.head;
        low = L.low ∙ K.low;
      }

  pub arrived_kept : {c : Chunk} {t h d : ℕ} → Arrived c hs ds s.bad t h d → Arrived c hs' ds' s'.bad t h d
  arrived_kept {t = t} a =
      record {
        seen = λ l. rw (K.heights t (a.seen l)) (a.seen l);
        height = λ l b. K.heights t (a.seen l) ∙ a.height l (K.worse b);
        depth = λ l b. K.depths t (a.seen l) ∙ a.depth l (K.worse b);
        empty = λ l b. a.empty l (K.worse b);
      }

  pub handled_kept : (c : Chunk) (o : ℕ) → 0 < get_or hs o 0 → HandledAt c hs ds s.bad o → HandledAt c hs' ds' s'.bad o
  handled_kept c o l x =
      rw (K.heights o l, K.depths o l)
      (record { fit = λ b. x.fit (K.worse b); goes = λ t g. arrived_kept (x.goes t g) })

pub kept_refl : (hs ds ts : List ℕ) (s : Search) → SearchKept hs ds ts hs ds ts s s
kept_refl hs ds ts s =
    record {
      heights = λ o l. refl;
      depths = λ o l. refl;
      todo = λ j l. refl;
      long = refl;
      grows = omega arith;
      worse = λ b. b;
      head = refl;
      low = refl;
    }

pub kept_broken : (hs ds ts : List ℕ) (s : Search) → SearchKept hs ds ts hs ds ts s (broken s)
kept_broken hs ds ts s =
    record {
      heights = λ o l. refl;
      depths = λ o l. refl;
      todo = λ j l. refl;
      long = refl;
      grows = omega arith;
      worse = λ b. absurd (set_not_clear b);
      head = refl;
      low = refl;
    }

module _ {c : Chunk} {hs ds ts : List ℕ} {s : Search} (P : Progress c hs ds ts s) where
  pub progress_broken : ((H D : ℕ → ℕ) → Assigned c H D → ⊥) → Progress c hs ds ts (broken s)
  progress_broken no_heights =
      record {
        long_heights = P.long_heights;
        long_depths = P.long_depths;
        long_todo = P.long_todo;
        room = P.room;
        order = P.order;
        origin = P.origin;
        top_height = P.top_height;
        top_depth = P.top_depth;
        listed = P.listed;
        marked = P.marked;
        low_heights = P.low_heights;
        low_depths = P.low_depths;
        forced = λ H D A. absurd (no_heights H D A);
        handled = λ j l f. handled_kept (kept_broken hs ds ts s) c _ (P.listed j (omega (arith, P.order))).seen (P.handled j l f);
        least = P.least;
        found = P.found;
      }

  -- a visit of an offset that was seen, or is past the end, and that no assignment allows
  pub visit_wrong :
      (t h d : ℕ) → (t < length c.code → 0 < get_or hs t 0) → ((H D : ℕ → ℕ) → Assigned c H D → ⊥)
      → Visited c hs ds ts hs ds ts s (broken s) t h d
  visit_wrong t h d seen no_heights =
      record {
        progress = progress_broken no_heights;
        kept = kept_broken hs ds ts s;
        arrived =
            record {
              seen = seen;
              height = λ l b. absurd (set_not_clear b);
              depth = λ l b. absurd (set_not_clear b);
              empty = λ l b. absurd (set_not_clear b);
            };
      }

  pub visit_past : (t d : ℕ) → length c.code ≤ t → Visited c hs ds ts hs ds ts s s t 0 d
  visit_past t d l =
      record {
        progress = P;
        kept = kept_refl hs ds ts s;
        arrived =
            record {
              seen = λ m. absurd (below_both l m);
              height = λ m b. absurd (below_both l m);
              depth = λ m b. absurd (below_both l m);
              empty = λ m b. refl;
            };
      }
    where
      below_both : {a b : ℕ} → a ≤ b → b < a → ⊥
      below_both x y = omega arith

  pub visit_same : (t h d : ℕ) → t < length c.code → get_or hs t 0 ≡ h + 1 → get_or ds t 0 ≡ d → Visited c hs ds ts hs ds ts s s t h d
  visit_same t h d l eh ed =
      record {
        progress = P;
        kept = kept_refl hs ds ts s;
        arrived =
            record {
              seen = λ m. omega arith;
              height = λ m b. eh;
              depth = λ m b. ed;
              empty = λ m b. absurd (below_both m l);
            };
      }
    where
      below_both : {a b : ℕ} → a ≤ b → b < a → ⊥
      below_both x y = omega arith

  module _ (t h d : ℕ) (C : Coming c s.tail t h d) (inside : t < length c.code) (unseen : get_or hs t 0 ≡ 0) where
    pub room_left : s.tail < length hs
    room_left = omega (arith, P.room, zeros_set hs t h (omega (arith, P.long_heights)) unseen)

    in_heights : t < length hs
    in_heights = omega (arith, P.long_heights)

    kept_new : SearchKept hs ds ts (set hs t (h + 1)) (set ds t d) (set ts s.tail t) s (pushed s)
    kept_new =
        record {
          heights = λ o l. get_or-set_other hs t o (h + 1) 0 (other o l);
          depths = λ o l. get_or-set_other ds t o d 0 (other o l);
          todo = λ j l. get_or-set_other ts s.tail j t 0 (λ e. omega arith);
          long = length-set hs t (h + 1);
          grows = omega arith;
          worse = λ b. b;
          head = refl;
          low = refl;
        }
      where
        other : (o : ℕ) → 0 < get_or hs o 0 → o ≡ t → ⊥
        other o l e = let z : get_or hs o 0 ≡ 0 = rw e unseen in omega arith

    listed_new : (j : ℕ) → j < s.tail + 1 → Listed c (set hs t (h + 1)) (get_or (set ts s.tail t) j 0)
    unfolding Stored
    listed_new j l =
        ⊎_elim
        (λ w. rw w.1 (record { inside = inside; seen = rw (get_or-set_same hs t (h + 1) 0 in_heights) (omega arith); reached = C.reached }))
        (λ w.
        let x = P.listed j (omega (arith, w.0)) in
        rw w.1 (record { inside = x.inside; seen = rw (kept_new.heights _ x.seen) x.seen; reached = x.reached }))
        (stored ts s.tail t j (omega (arith, room_left, P.long_todo)))

    marked_new :
        (o : ℕ) → o < length c.code → 0 < get_or (set hs t (h + 1)) o 0
        → (j : ℕ) × (j < s.tail + 1) × (get_or (set ts s.tail t) j 0 ≡ o)
    unfolding Stored
    marked_new o l v =
        ⊎_elim
        (λ w. (s.tail, omega arith, get_or-set_same ts s.tail t 0 (omega (arith, room_left, P.long_todo)) ∙ sym w.0))
        (λ w.
        let m = P.marked o l (rw w.1 at v) in
        (m.0, omega (arith, m.1), kept_new.todo m.0 m.1 ∙ m.2))
        (stored hs t (h + 1) o in_heights)

    heights_new : (o : ℕ) → o < length c.code → get_or (set hs t (h + 1)) o 0 ≤ s.tail + 1
    unfolding Stored
    heights_new o l = ⊎_elim (λ w. omega (arith, w.1, C.height)) (λ w. omega (arith, w.1, P.low_heights o l)) (stored hs t (h + 1) o in_heights)

    in_depths : t < length ds
    in_depths = omega (arith, in_heights, P.long_depths)

    depths_new : (o : ℕ) → o < length c.code → 0 < get_or (set hs t (h + 1)) o 0 → get_or (set ds t d) o 0 < s.tail + 1
    unfolding Stored
    depths_new o l v =
        ⊎_elim
        (λ w. let e = ap (λ (m : ℕ). get_or (set ds t d) m 0) w.0 ∙ get_or-set_same ds t d 0 in_depths in omega (arith, C.depth, e))
        (λ w. let e = get_or-set_other ds t o d 0 w.0 in omega (arith, e, P.low_depths o l (rw w.1 at v)))
        (stored hs t (h + 1) o in_heights)

    forced_new : (H D : ℕ → ℕ) → Assigned c H D → Forced c (set hs t (h + 1)) (set ds t d) s.bad H D
    unfolding Stored
    forced_new H D A =
        record {
          good = (P.forced H D A).good;
          height = λ o l v.
              ⊎_elim
              (λ w. w.1 ∙ ap (λ (m : ℕ). m + 1) (sym ((C.right H D A).height inside) ∙ ap H (sym w.0)))
              (λ w. w.1 ∙ (P.forced H D A).height o l (rw w.1 at v))
              (stored hs t (h + 1) o in_heights);
          depth = λ o l v.
              ⊎_elim
              (λ w.
              ap (λ (m : ℕ). get_or (set ds t d) m 0) w.0 ∙ get_or-set_same ds t d 0 in_depths ∙ sym ((C.right H D A).depth inside) ∙ ap D (sym w.0))
              (λ w. get_or-set_other ds t o d 0 w.0 ∙ (P.forced H D A).depth o l (rw w.1 at v))
              (stored hs t (h + 1) o in_heights);
        }

    progress_new : Progress c (set hs t (h + 1)) (set ds t d) (set ts s.tail t) (pushed s)
    progress_new =
        record {
          long_heights = simp length-set P.long_heights;
          long_depths = simp length-set P.long_depths;
          long_todo = simp length-set P.long_todo;
          room = simp length-set (omega (arith, P.room, zeros_set hs t h in_heights unseen));
          order = omega (arith, P.order);
          origin = P.origin;
          top_height = kept_new.heights 0 (omega (arith, P.top_height)) ∙ P.top_height;
          top_depth = kept_new.depths 0 (omega (arith, P.top_height)) ∙ P.top_depth;
          listed = listed_new;
          marked = marked_new;
          low_heights = heights_new;
          low_depths = depths_new;
          forced = forced_new;
          handled = λ j l.
              let m : j < s.tail = omega (arith, P.order) in
              rw (kept_new.todo j m) (λ f. handled_kept kept_new c _ (P.listed j m).seen (P.handled j l f));
          least = λ j l.
              let m : j < s.tail = omega (arith, P.order) in
              rw (kept_new.todo j m) (P.least j l);
          found = P.found;
        }

    pub visit_new : Visited c hs ds ts (set hs t (h + 1)) (set ds t d) (set ts s.tail t) s (pushed s) t h d
    visit_new =
        record {
          progress = progress_new;
          kept = kept_new;
          arrived =
              record {
                seen = λ l. rw (get_or-set_same hs t (h + 1) 0 in_heights) (omega arith);
                height = λ l b. get_or-set_same hs t (h + 1) 0 in_heights;
                depth = λ l b. get_or-set_same ds t d 0 in_depths;
                empty = λ l b. absurd (below_both l inside);
              };
        }
      where
        below_both : {a b : ℕ} → a ≤ b → b < a → ⊥
        below_both x y = omega arith

-- no assignment allows a height or a depth other than the one noted
module _ {c : Chunk} {hs ds ts : List ℕ} {s : Search} (P : Progress c hs ds ts s) (t h d : ℕ) (C : Coming c s.tail t h d) where
  pub wrong_end : length c.code ≤ t → (h ≡ 0 → ⊥) → (H D : ℕ → ℕ) → Assigned c H D → ⊥
  wrong_end l n H D A = n ((C.right H D A).empty l)

  pub wrong_height : t < length c.code → 0 < get_or hs t 0 → (get_or hs t 0 ≡ h + 1 → ⊥) → (H D : ℕ → ℕ) → Assigned c H D → ⊥
  wrong_height l v n H D A = n ((P.forced H D A).height t l v ∙ ap (λ (m : ℕ). m + 1) ((C.right H D A).height l))

  pub wrong_depth : t < length c.code → 0 < get_or hs t 0 → (get_or ds t 0 ≡ d → ⊥) → (H D : ℕ → ℕ) → Assigned c H D → ⊥
  wrong_depth l v n H D A = n ((P.forced H D A).depth t l v ∙ (C.right H D A).depth l)

pub coming_later : {c : Chunk} {a b t h d : ℕ} → a ≤ b → Coming c a t h d → Coming c b t h d
coming_later l C = record { reached = C.reached; height = omega (arith, C.height); depth = omega (arith, C.depth); right = C.right }

-- both visits after an instruction
pub spread_two :
    {c : Chunk} {hs ds ts hs' ds' ts' hs'' ds'' ts'' : List ℕ} {s s' s'' : Search} {h d : ℕ} (n : Node)
    → Visited c hs ds ts hs' ds' ts' s s' n.first h d → Visited c hs' ds' ts' hs'' ds'' ts'' s' s'' n.second h d
    → Spread c hs ds ts hs'' ds'' ts'' s s'' n h d
spread_two {c} {hs'' = hs''} {ds'' = ds''} {s'' = s''} {h} {d} n A B =
    record {
      progress = B.progress;
      kept = kept_trans A.kept B.kept;
      arrived = λ t g.
          ⊎_elim
          (λ e. subst (λ (m : ℕ). Arrived c hs'' ds'' s''.bad m h d) (sym e) (arrived_kept B.kept A.arrived))
          (λ e. subst (λ (m : ℕ). Arrived c hs'' ds'' s''.bad m h d) (sym e) B.arrived)
          g.1;
    }

-- the instruction at o, which has no fault; n is what it asks and does
module _
    {c : Chunk} {hs ds ts : List ℕ} {s : Search} {n : Node} (P : Progress c hs ds ts s) (o : ℕ) (L : Listed c hs o) (f : fault c o ≡ 0)
    (is : n ≡ node_at c o)
  where
    height_of : (H D : ℕ → ℕ) → Assigned c H D → get_or hs o 0 - 1 ≡ H o
    height_of H D A = omega (arith, (P.forced H D A).height o L.inside L.seen)

    depth_of : (H D : ℕ → ℕ) → Assigned c H D → get_or ds o 0 ≡ D o
    depth_of H D A = (P.forced H D A).depth o L.inside L.seen

    obeys_of : (H D : ℕ → ℕ) → Assigned c H D → Obeys c H D n (get_or hs o 0 - 1) (get_or ds o 0)
    obeys_of H D A = rw (is, height_of H D A, depth_of H D A) (A.obeys o L.reached L.inside f)

    reached_of : (t : ℕ) → Goes n t → Reach c t
    reached_of t g = Reach.after L.reached L.inside f (rw is at g)

    pub unfit_wrong : (Fit n (get_or hs o 0 - 1) (get_or ds o 0) → ⊥) → (H D : ℕ → ℕ) → Assigned c H D → ⊥
    unfit_wrong not_fit H D A = not_fit (obeys_of H D A).fit

    pub coming_wrong : (tail : ℕ) → ((H D : ℕ → ℕ) → Assigned c H D → ⊥) → (t : ℕ) → Goes n t → Coming c tail t 0 0
    coming_wrong tail no_heights t g =
        record { reached = reached_of t g; height = omega arith; depth = omega arith; right = λ H D A. absurd (no_heights H D A) }

    pub height_small : height_after n (get_or hs o 0 - 1) ≤ s.tail
    height_small =
        let l : height_after n (get_or hs o 0 - 1) ≤ get_or hs o 0 - 1 + 1 = rw is (one_more c o (get_or hs o 0 - 1)) in
        omega (arith, P.low_heights o L.inside, L.seen)

    pub change_room : n.need ≤ get_or hs o 0 - 1 → length hs < 2 ^ 63 → Changeable (get_or hs o 0 - 1) n.change
    change_room e l =
        let k : (node_at c o).need ≤ get_or hs o 0 - 1 = rw is at e in
        rw is (changeable c o (get_or hs o 0 - 1) k (omega (arith, P.low_heights o L.inside, P.room, L.seen)))

    pub depth_small : depth_after n (get_or ds o 0) ≤ s.tail
    depth_small =
        let l : n.opens ≤ 1 = rw is (opens_small c o) in
        omega (arith, P.low_depths o L.inside L.seen)

    pub tail_small : s.tail ≤ length hs
    tail_small = omega (arith, P.room)

    pub coming_right : (t : ℕ) → Goes n t → Coming c s.tail t (height_after n (get_or hs o 0 - 1)) (depth_after n (get_or ds o 0))
    coming_right t g = record { reached = reached_of t g; height = height_small; depth = depth_small; right = λ H D A. (obeys_of H D A).goes t g }

    module _ {hs' ds' ts' : List ℕ} {s' : Search} where
      pub handling_right :
          Fit n (get_or hs o 0 - 1) (get_or ds o 0)
          → Spread c hs ds ts hs' ds' ts' s s' n (height_after n (get_or hs o 0 - 1)) (depth_after n (get_or ds o 0))
          → Handling c hs ds ts hs' ds' ts' s s' o
      handling_right F S =
          record {
            progress = S.progress;
            kept = S.kept;
            handled = rw (S.kept.heights o L.seen, S.kept.depths o L.seen, ← is) (record { fit = λ b. F; goes = S.arrived });
          }

      pub handling_wrong : Spread c hs ds ts hs' ds' ts' (broken s) s' n 0 0 → Handling c hs ds ts hs' ds' ts' s s' o
      handling_wrong S =
          record {
            progress = S.progress;
            kept = kept_trans (kept_broken hs ds ts s) S.kept;
            handled =
                rw (← is)
                (record {
                  fit = λ b. absurd (set_not_clear (S.kept.worse b));
                  goes = λ t g.
                      record {
                        seen = (S.arrived t g).seen;
                        height = λ l b. absurd (set_not_clear (S.kept.worse b));
                        depth = λ l b. absurd (set_not_clear (S.kept.worse b));
                        empty = λ l b. absurd (set_not_clear (S.kept.worse b));
                      };
                });
          }

-- the next offset is done
abbrev pub advanced : Search → ℕ → Search
advanced s low = record { head = s.head + 1; tail = s.tail; low = low; bad = s.bad }

module _ {c : Chunk} {hs ds ts : List ℕ} {s : Search} (P : Progress c hs ds ts s) (waits : s.head < s.tail) where
  pub progress_next :
      (low : ℕ) → low ≤ s.low
      → (fault c (get_or ts s.head 0) ≡ 0 → HandledAt c hs ds s.bad (get_or ts s.head 0))
      → ((fault c (get_or ts s.head 0) ≡ 0 → ⊥) → low ≤ get_or ts s.head 0)
      → (low < length c.code → Reach c low × (fault c low ≡ 0 → ⊥))
      → Progress c hs ds ts (advanced s low)
  progress_next low le done lowest found =
      record {
        long_heights = P.long_heights;
        long_depths = P.long_depths;
        long_todo = P.long_todo;
        room = P.room;
        order = omega arith;
        origin = P.origin;
        top_height = P.top_height;
        top_depth = P.top_depth;
        listed = P.listed;
        marked = P.marked;
        low_heights = P.low_heights;
        low_depths = P.low_depths;
        forced = P.forced;
        handled = λ j l.
            ⊎_elim
            (λ m. P.handled j m)
            (λ e. rw e done)
            (below_next j s.head l);
        least = λ j l f.
            ⊎_elim
            (λ m. omega (arith, P.least j m f))
            (λ e. rw e (lowest (rw e at f)))
            (below_next j s.head l);
        found = found;
      }

  module _ (r : ℕ) (is : r ≡ fault c (get_or ts s.head 0)) (faulty : r ≡ 0 → ⊥) where
    pub step_lower : get_or ts s.head 0 < s.low → Progress c hs ds ts (advanced s (get_or ts s.head 0))
    step_lower l =
        progress_next (get_or ts s.head 0) (omega arith) (λ f. absurd (faulty (is ∙ f))) (λ n. omega arith)
        (λ m. ((P.listed s.head waits).reached, λ f. faulty (is ∙ f)))

    pub step_higher : s.low ≤ get_or ts s.head 0 → Progress c hs ds ts (advanced s s.low)
    step_higher l = progress_next s.low (omega arith) (λ f. absurd (faulty (is ∙ f))) (λ n. l) P.found

pub step_handled :
    {c : Chunk} {hs ds ts hs' ds' ts' : List ℕ} {s s' : Search} → s.head < s.tail → fault c (get_or ts s.head 0) ≡ 0
    → Handling c hs ds ts hs' ds' ts' s s' (get_or ts s.head 0)
    → Progress c hs' ds' ts' (record { head = s.head + 1; tail = s'.tail; low = s'.low; bad = s'.bad })
step_handled {s = s} {s'} waits f H =
    rw (← H.kept.head)
    (progress_next H.progress (omega (arith, H.kept.head, H.kept.grows)) s'.low (omega arith)
    (rw (H.kept.head, H.kept.todo s.head waits) (λ g. H.handled))
    (rw (H.kept.head, H.kept.todo s.head waits) (λ n. absurd (n f)))
    H.progress.found)

-- the end of the search
module _ {c : Chunk} {hs ds ts : List ℕ} {s : Search} (P : Progress c hs ds ts s) (ended : s.tail ≤ s.head) where
  all_seen : (o : ℕ) → Reach c o → o < length c.code → 0 < get_or hs o 0
  all_seen o Reach.start l = omega (arith, P.top_height)
  all_seen t (Reach.after {o = o} r l f g) m =
      let j = P.marked o l (all_seen o r l) in
      ((P.handled j.0 (omega (arith, j.1)) (rw j.2 f)).goes t (rw j.2 g)).seen m

  handled_all : (o : ℕ) → Reach c o → o < length c.code → fault c o ≡ 0 → HandledAt c hs ds s.bad o
  handled_all o r l f =
      let j = P.marked o l (all_seen o r l) in
      rw j.2 at (P.handled j.0 (omega (arith, j.1)) (rw j.2 f))

  pub lowest_all : (o : ℕ) → Reach c o → o < length c.code → (fault c o ≡ 0 → ⊥) → s.low ≤ o
  lowest_all o r l n =
      let j = P.marked o l (all_seen o r l) in
      rw j.2 at (P.least j.0 (omega (arith, j.1)) (rw j.2 n))

  no_fault_below : (o : ℕ) → Reach c o → o < length c.code → o < s.low → fault c o ≡ 0
  no_fault_below o r l m = ⊎_elim (λ e. e) (λ n. absurd (below o s.low m (lowest_all o r l n))) (same_or (fault c o) 0)
    where
      below : (a b : ℕ) → a < b → b ≤ a → ⊥
      below a b x y = omega arith

  pub end_fault : (number : ℕ) → number ≡ fault c s.low → s.low < length c.code → Lowest c number s.low
  end_fault number e l =
      record {
        inside = l;
        reached = (P.found l).0;
        named = sym e;
        faulty = λ z. (P.found l).1 (sym e ∙ z);
        least = λ o r m. no_fault_below o r (omega arith) m;
      }

  pub no_fault : length c.code ≤ s.low → NoFault c
  no_fault m o r l = no_fault_below o r l (omega arith)

  pub end_wrong : s.bad ≡ true → (H D : ℕ → ℕ) → Assigned c H D → ⊥
  end_wrong n H D A = set_not_clear (sym n ∙ (P.forced H D A).good)

  pub end_right : s.bad ≡ false → Assigned c (λ o. get_or hs o 0 - 1) (λ o. get_or ds o 0)
  end_right b =
      record {
        height = omega (arith, P.top_height);
        depth = P.top_depth;
        obeys = λ o r l f.
            let x = handled_all o r l f in
            record {
              fit = x.fit b;
              goes = λ t g.
                  let a = x.goes t g in
                  record {
                    height = λ m. let e = a.height m b in omega (arith, e);
                    depth = λ m. a.depth m b;
                    empty = λ m. a.empty m b;
                  };
            };
      }

-- the search's start: nothing but offset 0 is noted, at height 0 and depth 0
abbrev pub begun : ℕ → Search
begun n = record { head = 0; tail = 1; low = n; bad = false }

module _
    (c : Chunk) (hs zs ds ts : List ℕ) (code : 0 < length c.code) (same : length zs ≡ length hs) (long : length c.code ≤ length hs)
    (long_d : length hs ≤ length ds) (long_t : length hs ≤ length ts) (clear : (i : ℕ) → get_or zs i 0 ≡ 0)
  where
    only_zero : (o : ℕ) → 0 < get_or (set zs 0 1) o 0 → (o ≡ 0) × (get_or (set zs 0 1) o 0 ≡ 1)
    unfolding Stored
    only_zero o v = ⊎_elim (λ w. w) (λ w. absurd (none (rw (w.1, clear o) at v))) (stored zs 0 1 o (omega arith))
      where
        none : 0 < 0 → ⊥
        none x = omega arith

    first_depth : get_or (set ds 0 0) 0 0 ≡ 0
    first_depth = get_or-set_same ds 0 0 0 (omega arith)

    first_todo : get_or (set ts 0 0) 0 0 ≡ 0
    first_todo = get_or-set_same ts 0 0 0 (omega arith)

    pub progress_begun : Progress c (set zs 0 1) (set ds 0 0) (set ts 0 0) (begun (length c.code))
    progress_begun =
        record {
          long_heights = simp length-set (omega arith);
          long_depths = simp length-set (omega arith);
          long_todo = simp length-set (omega arith);
          room = simp length-set (omega (arith, zeros_set zs 0 0 (omega arith) (clear 0), zeros_all zs clear));
          order = omega arith;
          origin = code;
          top_height = get_or-set_same zs 0 1 0 (omega arith);
          top_depth = first_depth;
          listed = λ j l.
              let e : j ≡ 0 = omega arith in
              rw (e, first_todo)
              (record { inside = code; seen = rw (get_or-set_same zs 0 1 0 (omega arith)) (omega arith); reached = Reach.start });
          marked = λ o l v. (0, omega arith, first_todo ∙ sym (only_zero o v).0);
          low_heights = λ o l. ⊎_elim (λ v. omega (arith, (only_zero o v).1)) (λ v. omega arith) (below_or 0 (get_or (set zs 0 1) o 0));
          low_depths = λ o l v. rw ((only_zero o v).0, first_depth) (omega arith);
          forced = λ H D A.
              record {
                good = refl;
                height = λ o l v. (only_zero o v).1 ∙ rw ((only_zero o v).0, A.height) refl;
                depth = λ o l v. rw ((only_zero o v).0, A.depth) first_depth;
              };
          handled = λ j l. absurd (not-suc-le-zero l);
          least = λ j l. absurd (not-suc-le-zero l);
          found = λ l. absurd (lt_irrefl l);
        }
      where
        lt_irrefl : {a : ℕ} → a < a → ⊥
        lt_irrefl x = omega arith

-- a step leaves less to do
pub falls : {c : Chunk} {hs ds ts : List ℕ} {s : Search} (n m : ℕ) → Progress c hs ds ts s → s.head < s.tail → n ≡ length hs → m ≡ s.head + 1 → n - m < length hs - s.head
falls n m P waits e f = omega (arith, P.room)

-- a code of no bytes passes
pub empty_passes : (c : Chunk) → length c.code ≡ 0 → NoFault c × ((H : ℕ → ℕ) × (D : ℕ → ℕ) × Assigned c H D)
empty_passes c e = (
  λ o r l. absurd (none (rw e at l)),
  (λ o. 0, λ o. 0, record { height = refl; depth = refl; obeys = λ o r l. absurd (none (rw e at l)) }),
)
  where
    none : {a : ℕ} → a < 0 → ⊥
    none x = omega arith
