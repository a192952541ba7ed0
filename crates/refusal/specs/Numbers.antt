-- "Numbers of a refused call": the number of each rule of documents 01 and 02, and of what a call answers.
use Rattle.std.specs.Prelude.{ℕ, Result, Ok, Err}
use Rattle.refusal.specs.declared.Refusal.{Refusal}
use Rattle.refusal.specs.declared.Refusal.TheVariants.{
  SheetTooShort,
  WrongMark,
  WrongVersion,
  WrongBidders,
  WrongSlots,
  TooManyConstraints,
  WrongLength,
  WrongEffect,
  WrongBid,
  OutOfRange,
  OtherIsOwner,
  HalfAnOther,
  EmptyConstraint,
  TruthRefused,
  TruthDiffers,
  WrongBidder,
  WrongWorth,
  TooLargeForBest,
  ResultTooShort,
  WrongLimit,
  WrongBars,
  BarAgainstOwner,
  WrongSet,
  RivalIsOwner,
  TooManyTerms,
  WrongTick,
  BidOffTick,
  OutOfOrder,
  UnorderedVersion,
  WrongFloorCount,
  WrongFloor,
}

abbrev pub number_of : Refusal → ℕ
number_of SheetTooShort = 1
number_of WrongMark = 2
number_of WrongVersion = 3
number_of WrongBidders = 4
number_of WrongSlots = 5
number_of TooManyConstraints = 6
number_of WrongLength = 7
number_of WrongEffect = 8
number_of WrongBid = 9
number_of OutOfRange = 10
number_of OtherIsOwner = 11
number_of HalfAnOther = 12
number_of EmptyConstraint = 13
number_of TruthRefused = 14
number_of TruthDiffers = 15
number_of WrongBidder = 16
number_of WrongWorth = 17
number_of TooLargeForBest = 18
number_of ResultTooShort = 19
number_of WrongLimit = 20
number_of WrongBars = 21
number_of BarAgainstOwner = 22
number_of WrongSet = 23
number_of RivalIsOwner = 24
number_of TooManyTerms = 25
number_of WrongTick = 26
number_of BidOffTick = 27
number_of OutOfOrder = 28
number_of UnorderedVersion = 29
number_of WrongFloorCount = 30
number_of WrongFloor = 31

-- the number of the rule that a call was refused by, and 0 for one that has its result
abbrev pub number_in : {A : Type 0} → Result A Refusal → ℕ
number_in (Ok _) = 0
number_in (Err refusal) = number_of refusal
