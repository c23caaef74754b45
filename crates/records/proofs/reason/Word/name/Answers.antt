-- Each arm of the match is a case of `spelling`.
use Rattle.records.proofs.reason.Word.name.Goals as goal

pub returns-in-App : goal.returns-in-App
returns-in-App c = rw c.in-App.is

pub returns-in-Normal : goal.returns-in-Normal
returns-in-Normal c = rw c.in-Normal.is

pub returns-in-Crash : goal.returns-in-Crash
returns-in-Crash c = rw c.in-Crash.is

pub returns-in-Killed : goal.returns-in-Killed
returns-in-Killed c = rw c.in-Killed.is

pub returns-in-Overflow : goal.returns-in-Overflow
returns-in-Overflow c = rw c.in-Overflow.is
