-- What staging piece by piece leaves, and publishing, where the name is given in two ways.
use Rattle.std.proofs.Common.{◌≡◌, ◌⊎◌, Bool, true, ◌++◌, None, Some, Result, refl, ap, ◌∙◌, sym, subst}
use Rattle.std.specs.Prelude.{Option, false, option_map, bytes_eq, if◌then◌else◌}
use Rattle.base_devices.specs.Content.{Name, Value, Content, Holds, SameBut, put, lengthened, moved, Changes}
use Rattle.base_devices.specs.Moments.{View, GrowsBy, MayKeep, is_unsynced}
use Rattle.base_devices.specs.Crash.{IsTemporary}
use Rattle.base_disk.proofs.Images.{Law, put_same}
use Rattle.base_disk.proofs.Replaced.{staged_crash, staged_now, published_crash, published_now, published_whole, published_ends}
use Rattle.base_model.specs.Text.{Text}
use Rattle.archive_store.specs.Pushing.{PutsPart, PutsWhole}

pub time_at : (o : Option Content) (s n name : Name) (b c : View) → n ≡ name → GrowsBy (λ m v. ((m ≡ n) × Holds o s v) ⊎ ((m ≡ s) × (v ≡ None))) (λ _. ⊥) b c → GrowsBy (λ m v. ((m ≡ name) × Holds o s v) ⊎ ((m ≡ s) × (v ≡ None))) (λ _. ⊥) b c
time_at o s n name b c e t = subst (λ k. GrowsBy (λ m v. ((m ≡ k) × Holds o s v) ⊎ ((m ≡ s) × (v ≡ None))) (λ _. ⊥) b c) e t

pub now_at : {T E : Type 0} (r : Result T E) (s n name : Name) (old new : Option Content) → n ≡ name → Changes r (moved s n) old new → Changes r (moved s name) old new
now_at r s n name old new e ch = subst (λ k. Changes r (moved s k) old new) e ch

pub whole_at : (s n name : Name) (old new : Option Content) → n ≡ name → new ≡ option_map (moved s n) old → new ≡ option_map (moved s name) old
whole_at s n name old new e ch = subst (λ k. new ≡ option_map (moved s k) old) e ch

pub kept_at : (o : Option Content) (s n name : Name) (b c : View) → n ≡ name → (is_unsynced b n ≡ false → (v : Value) → MayKeep c n v → Holds o s v) → is_unsynced b name ≡ false → (v : Value) → MayKeep c name v → Holds o s v
kept_at o s n name b c e h = subst (λ k. is_unsynced b k ≡ false → (v : Value) → MayKeep c k v → Holds o s v) e h

-- ---- bytes that are staged piece by piece

set_twice : (b : Bool) (v w x : Value) → (if b then v else (if b then w else x)) ≡ (if b then v else x)
set_twice true v w x = refl
set_twice false v w x = refl

put_twice : (name : Name) (v w : Value) (f : Content) → put name v (put name w f) ≡ put name v f
put_twice name v w f = λ i q. set_twice (bytes_eq name q) v w (f q) i

put_longer : (name : Name) (bytes more : Text) (f : Content) → lengthened name more (put name (Some bytes) f) ≡ put name (Some (bytes ++ more)) f
put_longer name bytes more f = ap (λ (v : Value). put name (option_map (λ (old : Text). old ++ more) v) (put name (Some bytes) f)) (put_same name (Some bytes) f) ∙ put_twice name (Some (bytes ++ more)) (Some bytes) f

pub staged_more : (temp name : Name) (bytes more : Text) (old mid new : Option Content) → name ≡ temp → mid ≡ option_map (put temp (Some bytes)) old → new ≡ option_map (lengthened name more) mid → new ≡ option_map (put temp (Some (bytes ++ more))) old
staged_more temp name bytes more old mid new same mid_is new_is =
    subst (λ (n : Name). new ≡ option_map (lengthened n more) mid) same new_is ∙ ap (option_map (lengthened temp more)) mid_is ∙ both old
  where
    both : (o : Option Content) → option_map (lengthened temp more) (option_map (put temp (Some bytes)) o) ≡ option_map (put temp (Some (bytes ++ more))) o
    both None = refl
    both (Some f) = ap (λ (g : Content). Some g) (put_longer temp bytes more f)

twice_mapped : (name : Name) (v w : Value) (o : Option Content) → option_map (put name v) (option_map (put name w) o) ≡ option_map (put name v) o
twice_mapped name v w None = refl
twice_mapped name v w (Some f) = ap (λ (g : Content). Some g) (put_twice name v w f)

-- what was staged is as if it were staged once more
pub begun_again : (temp name : Name) (first : Text) (old mid : Option Content) → name ≡ temp → mid ≡ option_map (put temp (Some first)) old → mid ≡ option_map (put name (Some first)) mid
begun_again temp name first old mid same is =
    subst (λ (n : Name). mid ≡ option_map (put n (Some first)) mid) (sym same)
    (subst (λ (m : Option Content). m ≡ option_map (put temp (Some first)) m) (sym is) (sym (twice_mapped temp (Some first) (Some first) old)))

pub staged_again : (temp name : Name) (first bytes : Text) (old mid new : Option Content) → name ≡ temp → mid ≡ option_map (put temp (Some first)) old → new ≡ option_map (put name (Some bytes)) mid → new ≡ option_map (put temp (Some bytes)) old
staged_again temp name first bytes old mid new same is new_is =
    subst (λ (n : Name). new ≡ option_map (put n (Some bytes)) mid) same new_is ∙ ap (option_map (put temp (Some bytes))) is ∙ twice_mapped temp (Some bytes) (Some first) old

-- ---- what is put at a path

module _ (temp path : Name) (bytes : Text) (is_temp : IsTemporary temp) (lasting : ¬ IsTemporary path) (a b : View) (law : Law a)
    (p : GrowsBy (λ n _. n ≡ temp) (λ n. n ≡ temp) a b) where
  pub stages_part : SameBut temp a.now b.now → PutsPart path bytes a b
  stages_part others = record {
    now = staged_now temp path bytes is_temp lasting a.now b.now others;
    crash = λ some synced. staged_crash temp path bytes is_temp lasting a b law synced p others;
  }

  module _ (c : View) (s name : Name) (e : s ≡ temp) (is : b.now ≡ option_map (put temp (Some bytes)) a.now) (named : name ≡ path)
      (q : GrowsBy (λ n v. ((n ≡ name) × Holds b.now s v) ⊎ ((n ≡ s) × (v ≡ None))) (λ _. ⊥) b c) where
    pub puts_part : {T E : Type 0} (r : Result T E) → Changes r (moved s name) b.now c.now → PutsPart path bytes a c
    puts_part r ch = record {
      now = published_now temp path bytes is_temp lasting r a.now b.now c.now s e is (now_at r s name path b.now c.now named ch);
      crash = λ some synced. published_crash temp path bytes is_temp lasting a b c s e is p (time_at b.now s name path b c named q) law synced r (now_at r s name path b.now c.now named ch);
    }

    pub puts_whole : c.now ≡ option_map (moved s name) b.now → (is_unsynced b name ≡ false → (v : Value) → MayKeep c name v → Holds b.now s v) → PutsWhole path bytes a c
    puts_whole ch kept = record {
      now = published_whole temp path bytes is_temp lasting a.now b.now c.now s e is (whole_at s name path b.now c.now named ch);
      ends = λ some synced. published_ends temp path bytes is_temp lasting a b c s e is p (time_at b.now s name path b c named q) law synced (whole_at s name path b.now c.now named ch) (kept_at b.now s name path b c named kept);
    }
