-- No rule has the number 0, which says that a call is not refused; and what `?` passes on keeps its number. Assumes nothing.
use Rattle.std.proofs.Common.{◌≡◌, ℕ}
use Rattle.std.specs.Result.{IsErrAnd}
use Rattle.std.specs.Prelude.{Result}
use Rattle.std.proofs.lemmas.Result.{err_from_is_err_and}
use Rattle.refusal.specs.declared.Refusal.{Refusal}
use Rattle.refusal.specs.declared.Refusal.TheVariants.{
  SheetTooShort,
  WrongMark,
  WrongVersion,
  WrongBidders,
  WrongSlots,
  TooManyConstraints,
  WrongLength,
  WrongEffect,
  WrongBid,
  OutOfRange,
  OtherIsOwner,
  HalfAnOther,
  EmptyConstraint,
  TruthRefused,
  TruthDiffers,
  WrongBidder,
  WrongWorth,
  TooLargeForBest,
  ResultTooShort,
  WrongLimit,
  WrongBars,
  BarAgainstOwner,
  WrongSet,
  RivalIsOwner,
  TooManyTerms,
  WrongTick,
  BidOffTick,
  OutOfOrder,
  UnorderedVersion,
  WrongFloorCount,
  WrongFloor,
}
use Rattle.refusal.specs.Numbers.{number_of, number_in}

pub number_of-ne0 : (refusal : Refusal) → number_of refusal ≡ 0 → ⊥
number_of-ne0 SheetTooShort e = cc
number_of-ne0 WrongMark e = cc
number_of-ne0 WrongVersion e = cc
number_of-ne0 WrongBidders e = cc
number_of-ne0 WrongSlots e = cc
number_of-ne0 TooManyConstraints e = cc
number_of-ne0 WrongLength e = cc
number_of-ne0 WrongEffect e = cc
number_of-ne0 WrongBid e = cc
number_of-ne0 OutOfRange e = cc
number_of-ne0 OtherIsOwner e = cc
number_of-ne0 HalfAnOther e = cc
number_of-ne0 EmptyConstraint e = cc
number_of-ne0 TruthRefused e = cc
number_of-ne0 TruthDiffers e = cc
number_of-ne0 WrongBidder e = cc
number_of-ne0 WrongWorth e = cc
number_of-ne0 TooLargeForBest e = cc
number_of-ne0 ResultTooShort e = cc
number_of-ne0 WrongLimit e = cc
number_of-ne0 WrongBars e = cc
number_of-ne0 BarAgainstOwner e = cc
number_of-ne0 WrongSet e = cc
number_of-ne0 RivalIsOwner e = cc
number_of-ne0 TooManyTerms e = cc
number_of-ne0 WrongTick e = cc
number_of-ne0 BidOffTick e = cc
number_of-ne0 OutOfOrder e = cc
number_of-ne0 UnorderedVersion e = cc
number_of-ne0 WrongFloorCount e = cc
number_of-ne0 WrongFloor e = cc

pub passed_on : {A : Type 0} {n : ℕ} (r : Result A Refusal) (refusal : Refusal) → IsErrAnd r (λ y. y ≡ refusal) → number_of refusal ≡ n → number_in r ≡ n
passed_on r refusal is e = let p = err_from_is_err_and r is in rw (p.1, p.2) e
