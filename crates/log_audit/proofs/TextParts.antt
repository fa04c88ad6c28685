-- What was written so far, and what is left of a text.
use Rattle.std.proofs.Common.{◌≡◌, ℕ, Bool, true, false, List, [], ◌∷◌, ◌++◌, length, take, drop, refl, sym, ◌∙◌, ap, subst, arith, append_assoc, append-nil, take-append-drop}
use Rattle.host_trait.specs.World.{World, Moment, Emitted}
use Rattle.host_trait.specs.Runs.{OnlyAsked}
use Rattle.host_trait.proofs.Moments.{started, one, both, weaker}
use Rattle.log_audit.specs.ReportOutput.{PutsOut, PutsPart}

pub none_put : (w : World) → PutsOut [] w w
none_put w = record { input = refl; output = sym (append-nil w.output); disk = refl; moments = started _ w.past }

pub asked_puts : (old new : World) → OnlyAsked old new → PutsOut [] old new
asked_puts old new a = record {
  input = a.input;
  output = a.output ∙ sym (append-nil old.output);
  disk = a.disk;
  moments = weaker _ _ (λ m is. ap (λ (x : Moment). x.disk) is) a.moments;
}

pub puts_then : (a b : List ℕ) (old mid new : World) → PutsOut a old mid → PutsOut b mid new → PutsOut (a ++ b) old new
puts_then a b old mid new first second = record {
  input = second.input ∙ first.input;
  output = second.output ∙ ap (λ (l : List ℕ). l ++ b) first.output ∙ append_assoc old.output a b;
  disk = second.disk ∙ first.disk;
  moments = both _ first.moments (weaker _ _ (λ m is. is ∙ first.disk) second.moments);
}

-- calls that only asked add nothing
pub puts_asked : (a : List ℕ) (old mid new : World) → PutsOut a old mid → OnlyAsked mid new → PutsOut a old new
puts_asked a old mid new first asked = subst (λ (l : List ℕ). PutsOut l old new) (append-nil a) (puts_then a [] old mid new first (asked_puts mid new asked))

pub emitted_puts : (n : ℕ) (bytes : List ℕ) (old new : World) → Emitted n bytes old new → PutsOut (take n bytes) old new
emitted_puts n bytes old new e = record { input = e.input; output = e.output; disk = e.disk; moments = one _ old new e.past e.disk }

pub emitted_part : (n : ℕ) (bytes : List ℕ) (ok : Bool) (old new : World) → Emitted n bytes old new → (ok ≡ true → take n bytes ≡ bytes) → PutsPart bytes ok old new
emitted_part n bytes ok old new e whole = record { added = take n bytes; puts = emitted_puts n bytes old new e; front = (drop n bytes, sym (take-append-drop n bytes)); whole = whole }

module _ (whole : List ℕ) (old : World) where
  -- all of it
  pub part_all : (new : World) → PutsOut whole old new → PutsPart whole true old new
  part_all new puts = record { added = whole; puts = puts; front = ([], sym (append-nil whole)); whole = λ yea. refl }

  -- a first part, and no more
  pub part_front : (a rest : List ℕ) (new : World) → PutsOut a old new → whole ≡ a ++ rest → PutsPart whole false old new
  part_front a rest new puts split = record { added = a; puts = puts; front = (rest, split); whole = λ no. absurd cc }

  -- a part of what comes last
  pub part_then : (a b : List ℕ) (ok : Bool) (mid new : World) → PutsOut a old mid → PutsPart b ok mid new → whole ≡ a ++ b → PutsPart whole ok old new
  part_then a b ok mid new first second split = record {
    added = a ++ second.added;
    puts = puts_then a second.added old mid new first second.puts;
    front = (second.front.0, split ∙ ap (λ (l : List ℕ). a ++ l) second.front.1 ∙ sym (append_assoc a second.added second.front.0));
    whole = λ yea. ap (λ (l : List ℕ). a ++ l) (second.whole yea) ∙ sym split;
  }

  -- a part of what comes next
  pub part_cut : (a b rest : List ℕ) (ok : Bool) (mid new : World) → PutsOut a old mid → PutsPart b ok mid new → whole ≡ a ++ (b ++ rest) → PutsPart whole false old new
  part_cut a b rest ok mid new first second split = record {
    added = a ++ second.added;
    puts = puts_then a second.added old mid new first second.puts;
    front = (
      second.front.0 ++ rest,
      split ∙ ap (λ (l : List ℕ). a ++ (l ++ rest)) second.front.1 ∙ ap (λ (l : List ℕ). a ++ l) (append_assoc second.added second.front.0 rest)
          ∙ sym (append_assoc a second.added (second.front.0 ++ rest)),
    );
    whole = λ no. absurd cc;
  }

-- a call that succeeded wrote its whole text
pub part_done : (text : List ℕ) (old new : World) → PutsPart text true old new → PutsOut text old new
part_done text old new p = subst (λ (l : List ℕ). PutsOut l old new) (p.whole refl) p.puts

-- a list without items
pub none_left : {A : Type 0} (xs : List A) → length xs ≡ 0 → xs ≡ []
none_left [] e = refl
none_left (x ∷ xs) e = absurd (omega (arith, e))

-- Of this text all but what is left was written.
pub record Gone (whole left : List ℕ) (old now : World) : Type 0 where
  pub added : List ℕ
  pub puts : PutsOut added old now
  pub split : whole ≡ added ++ left

pub gone_none : (left : List ℕ) (old : World) → Gone left left old old
gone_none left old = record { added = []; puts = none_put old; split = refl }

module _ (whole left : List ℕ) (old : World) where
  pub gone_more : (line more : List ℕ) (mid new : World) → Gone whole left old mid → left ≡ line ++ more → PutsPart line true mid new → Gone whole more old new
  gone_more line more mid new g next p = record {
    added = g.added ++ line;
    puts = puts_then g.added line old mid new g.puts (part_done line mid new p);
    split = g.split ∙ ap (λ (l : List ℕ). g.added ++ l) next ∙ sym (append_assoc g.added line more);
  }

  pub gone_cut : (line more : List ℕ) (ok : Bool) (mid new : World) → Gone whole left old mid → left ≡ line ++ more → PutsPart line ok mid new → PutsPart whole false old new
  gone_cut line more ok mid new g next p = part_cut whole old g.added line more ok mid new g.puts p (g.split ∙ ap (λ (l : List ℕ). g.added ++ l) next)

  pub gone_stopped : (now : World) → Gone whole left old now → PutsPart whole false old now
  gone_stopped now g = part_front whole old g.added left now g.puts g.split

  pub gone_all : (now : World) → Gone whole left old now → left ≡ [] → PutsPart whole true old now
  gone_all now g none =
      let same : whole ≡ g.added = g.split ∙ ap (λ (l : List ℕ). g.added ++ l) none ∙ append-nil g.added in
      part_all whole old now (subst (λ (l : List ℕ). PutsOut l old now) (sym same) g.puts)
