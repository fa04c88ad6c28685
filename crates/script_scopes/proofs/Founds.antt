-- First faults of several pieces of text.
use Rattle.std.proofs.Common.{◌≡◌, ◌≢◌, Some, None, refl, sym, ap, ◌∙◌}
use Rattle.script_scopes.specs.declared.faults.CheckFault.{CheckFault}
use Rattle.script_scopes.specs.declared.faults.CheckFault.TheVariants.{UnknownName, TwiceNamed, Arity, FieldInPlain, SetInRead, TooMany, NeedsTransaction, Memory}
use Rattle.script_scopes.specs.FirstFaults.{FirstFault, ◌<|>◌, Fails}

-- the first of two is the first
pub fails_first : (e : CheckFault) (a b : FirstFault) → Fails e a → Fails e (a <|> b)
fails_first Memory a b h = tt
fails_first (UnknownName at) a b h = ap (λ x. x <|> b) h
fails_first (TwiceNamed at) a b h = ap (λ x. x <|> b) h
fails_first (Arity at) a b h = ap (λ x. x <|> b) h
fails_first (FieldInPlain at) a b h = ap (λ x. x <|> b) h
fails_first (SetInRead at) a b h = ap (λ x. x <|> b) h
fails_first (TooMany at) a b h = ap (λ x. x <|> b) h
fails_first (NeedsTransaction at) a b h = ap (λ x. x <|> b) h

-- the same text has the same fault
pub fails_is : (e : CheckFault) (a b : FirstFault) → a ≡ b → Fails e a → Fails e b
fails_is Memory a b h f = tt
fails_is (UnknownName at) a b h f = sym h ∙ f
fails_is (TwiceNamed at) a b h f = sym h ∙ f
fails_is (Arity at) a b h f = sym h ∙ f
fails_is (FieldInPlain at) a b h f = sym h ∙ f
fails_is (SetInRead at) a b h f = sym h ∙ f
fails_is (TooMany at) a b h f = sym h ∙ f
fails_is (NeedsTransaction at) a b h f = sym h ∙ f

-- where the first piece has no fault the second decides
pub goes_on : (a b : FirstFault) → a ≡ None → (a <|> b) ≡ b
goes_on a b h = ap (λ x. x <|> b) h

-- a fault that is no want of memory is the first
pub fails_some : (e : CheckFault) (a : FirstFault) → Fails e a → e ≢ Memory → a ≡ Some e
fails_some Memory a h n = absurd (n refl)
fails_some (UnknownName at) a h n = h
fails_some (TwiceNamed at) a h n = h
fails_some (Arity at) a h n = h
fails_some (FieldInPlain at) a h n = h
fails_some (SetInRead at) a h n = h
fails_some (TooMany at) a h n = h
fails_some (NeedsTransaction at) a h n = h
